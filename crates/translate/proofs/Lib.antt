-- The laws that the proofs of `translate` share.
pub mod Answers
