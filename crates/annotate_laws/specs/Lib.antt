-- The modules of `annotate_laws`' specs.
pub mod Uses
pub mod Marks
pub mod Members
pub mod Outer
pub mod Numbered
pub mod Rows
pub mod Right
pub mod Whole
pub mod Trial
