-- The modules of `plain_rows`'s specs.
pub mod Plain
pub mod Parts
pub mod Marks
pub mod Stands
pub mod Walk
