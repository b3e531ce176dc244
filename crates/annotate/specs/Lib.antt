-- The modules of `annotate`'s specs.
pub mod Walks
