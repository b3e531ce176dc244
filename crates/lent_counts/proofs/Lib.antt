-- The laws that the proofs of `lent_counts` share.
pub mod Laws
