pub mod Column
pub mod Relation
pub mod Allowing
