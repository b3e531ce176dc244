-- The laws that the proofs of `flatten_rows` share.
pub mod Laws
pub mod Uses
pub mod Widths
pub mod Stays
pub mod Adds
pub mod Trees
pub mod Leaves
pub mod Lists
pub mod Lines
pub mod Loops
pub mod Nodes
pub mod Heads
pub mod Ifs
pub mod Members
pub mod Compounds
pub mod Passes
