pub mod Firsts
pub mod Lending
pub mod Choosing
pub mod Keeping
pub mod Lowering
