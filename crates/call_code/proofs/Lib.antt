-- The laws that the proofs of `call_code` share.
pub mod Laws
