-- The laws that the proofs of `machine_lines` share.
pub mod Appending
pub mod Counts
pub mod Levels
pub mod Lines
