-- The laws that the proofs of `call_deliver` share.
pub mod Laws
