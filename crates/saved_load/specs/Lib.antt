-- The modules of `saved_load`'s specs.
pub mod Entries
