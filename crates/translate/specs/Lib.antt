-- The modules of `translate`'s specs.
pub mod Left
