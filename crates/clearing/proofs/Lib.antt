-- The laws that the proofs of `clearing` share.
pub mod Clearing
