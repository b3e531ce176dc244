-- The laws that the proofs of `words` share.
pub mod Exact
pub mod Bytes
pub mod Packing
