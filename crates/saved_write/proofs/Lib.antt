-- The laws that the proofs of `saved_write` share.
pub mod Laws
pub mod Whole
pub mod Saving
