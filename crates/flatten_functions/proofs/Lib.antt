-- The laws that the proofs of `flatten_functions` share.
pub mod Parameters
pub mod Typed
pub mod Accepted
pub mod Functions
pub mod Whole
