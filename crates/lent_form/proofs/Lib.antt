-- The modules of `lent_form`'s proofs.
pub mod Tables
pub mod Operands
pub mod Rows
pub mod Lines
pub mod Trees
pub mod Functions
pub mod Walk
pub mod Whole
pub mod Starts
pub mod Forming
pub mod Cut
