-- The modules of `lent_fit_laws`' specs.
pub mod Reading
pub mod Same
pub mod Leaves
pub mod Trees
pub mod Functions
pub mod Whole
pub mod Places
