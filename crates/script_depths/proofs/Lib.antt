-- The laws that the proofs of `script_depths` share.
pub mod Laws
pub mod Tree
