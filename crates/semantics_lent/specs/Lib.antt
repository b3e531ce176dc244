-- The modules of `semantics_lent`'s specs.
pub mod Form
pub mod Fit
pub mod Hold
pub mod Calls
pub mod Demands
pub mod Computing
pub mod Codes
pub mod Deliveries
pub mod Rows
