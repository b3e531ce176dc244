-- The laws that the proofs of `call_load` share.
pub mod Laws
pub mod Tables
