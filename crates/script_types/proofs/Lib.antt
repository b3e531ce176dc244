-- The laws that the proofs of `script_types` share.
pub mod Laws
pub mod Script
