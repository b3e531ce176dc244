-- The laws that the proofs of `machine_loops` share.
pub mod Beginning
pub mod Ending
