-- The modules of `flatten_functions`'s specs.
pub mod Read
pub mod Script
