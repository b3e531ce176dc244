-- The modules of `soundness`' specs.
pub mod annotation
pub mod borrowing
pub mod Answers
pub mod Settled
pub mod Delivering
pub mod Step
pub mod Worked
pub mod Demand3
pub mod LowestLevel
pub mod saved
pub mod Demand2
pub mod Instances
pub mod Fixed
pub mod Spoiled
pub mod FixedLevels
