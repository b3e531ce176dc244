-- The laws that the proofs of `script_names` share.
pub mod Laws
pub mod Tree
