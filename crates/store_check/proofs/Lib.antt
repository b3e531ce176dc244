-- The laws that the proofs of `store_check` share.
pub mod Ranges
pub mod Tallying
pub mod Gathering
pub mod FreeList
pub mod Comparing
pub mod Whole
