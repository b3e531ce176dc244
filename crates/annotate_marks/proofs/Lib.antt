-- The laws that the proofs of `annotate_marks` share.
pub mod Laws
