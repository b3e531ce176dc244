-- The modules of `store`'s specs.
pub mod Acquiring
