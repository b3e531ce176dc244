-- The laws that the proofs of `lent_atoms` share.
pub mod Laws
