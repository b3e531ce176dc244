-- The laws that the proofs of `store_reset` share.
pub mod Copying
pub mod Linking
pub mod Opening
pub mod Saved
