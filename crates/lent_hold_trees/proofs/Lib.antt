-- The modules of `lent_hold_trees`' laws.
pub mod Bounds
pub mod Loops
pub mod Trees
