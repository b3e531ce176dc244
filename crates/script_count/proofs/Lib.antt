-- The laws that the proofs of `script_count` share.
pub mod Laws
pub mod Tree
