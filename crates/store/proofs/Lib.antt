-- The laws that the proofs of `store` share.
pub mod Retaining
pub mod Acquiring
pub mod Appending
mod Overwriting
pub mod Filling
