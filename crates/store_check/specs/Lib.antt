-- The modules of `store_check`'s specs.
pub mod Holders
pub mod Fitting
pub mod Rows
