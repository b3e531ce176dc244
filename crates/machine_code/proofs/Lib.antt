-- The laws that the proofs of `machine_code` share.
pub mod Reading
