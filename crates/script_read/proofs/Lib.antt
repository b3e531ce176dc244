-- The laws that the proofs of `script_read` share.
pub mod Nodes
pub mod Sorts
pub mod Limits
pub mod Turns
pub mod Part
pub mod Atoms
pub mod Whole
pub mod Written
pub mod Tables
pub mod Found
pub mod Starts
pub mod Ends
