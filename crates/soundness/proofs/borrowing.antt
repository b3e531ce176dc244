-- The table of borrowed parameters is the largest in which no borrowed parameter is spent.
pub mod Rounds
pub mod Counts
pub mod Spending
pub mod Stable
pub mod Largest
