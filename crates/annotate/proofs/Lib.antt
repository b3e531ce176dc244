-- The laws that the proofs of `annotate` share.
pub mod Lines
pub mod Branches
pub mod Trees
