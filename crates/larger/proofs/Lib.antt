-- The modules of `larger`'s proofs.
pub mod Extended
pub mod Runs
pub mod Work
pub mod Stores
pub mod Deliveries
pub mod Larger
pub mod Plans
pub mod Histories
pub mod Instances
