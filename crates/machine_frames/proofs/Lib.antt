-- The laws that the proofs of `machine_frames` share.
pub mod Gathering
pub mod Levels
pub mod Results
pub mod Tests
