-- The modules of `lent_hold_laws`' specs.
pub mod Rows
pub mod Moves
pub mod Same
pub mod Functions
pub mod Whole
