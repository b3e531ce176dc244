-- The laws that the proofs of `script` share.
pub mod Bounds
pub mod Joint
pub mod Both
pub mod Laws
pub mod Whole
