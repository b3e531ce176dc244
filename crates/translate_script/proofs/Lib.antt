-- The laws that the proofs of `translate_script` share.
pub mod Owned
pub mod Whole
pub mod Depths
pub mod Places
pub mod Parameters
pub mod Functions
