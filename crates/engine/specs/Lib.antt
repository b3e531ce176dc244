-- The modules of `engine`'s specs.
pub mod Promises
