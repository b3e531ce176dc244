-- The modules of `machine_laws`' specs.
pub mod Ends
pub mod Frames
pub mod Levels
pub mod Same
pub mod Acquiring
pub mod Atoms
pub mod Leaves
pub mod Changes
pub mod Passes
pub mod Loops
pub mod Trees
pub mod Calls
pub mod Delivery
pub mod Functions
pub mod Script
pub mod Starts
