-- The laws that the proofs of `call_store` share.
pub mod Laws
