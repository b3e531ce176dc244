-- The laws that the proofs of `saved_load` share.
pub mod Laws
pub mod Agreement
