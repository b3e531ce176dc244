-- The modules of `script`'s specs.
pub mod Verdicts
