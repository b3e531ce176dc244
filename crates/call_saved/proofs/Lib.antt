-- The laws that the proofs of `call_saved` share.
pub mod Laws
pub mod SaveLaws
