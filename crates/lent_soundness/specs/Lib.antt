-- The modules of `lent_soundness`'s specs.
pub mod Answers
pub mod Counts
pub mod Decides
pub mod Functions
pub mod Tables
pub mod Accepted
pub mod Untouched
pub mod Alike
pub mod Passing
pub mod Steps
pub mod ByCode
pub mod ByScript
pub mod Works
pub mod Bound
