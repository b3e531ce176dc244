-- The laws that the proofs of `borrow_table` share.
pub mod Gathering
pub mod Links
pub mod Own
pub mod Reading
pub mod Spends
pub mod Settling
pub mod Standing
pub mod Tables
pub mod Working
