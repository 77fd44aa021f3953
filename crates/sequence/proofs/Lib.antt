-- The order of words.
pub mod Lowest
pub mod Words
-- Sorting.
pub mod Sorted
pub mod Swaps
-- Networks in another order.
pub mod Reordered
