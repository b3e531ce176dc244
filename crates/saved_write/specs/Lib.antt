-- The modules of `saved_write`'s specs.
pub mod Writing
