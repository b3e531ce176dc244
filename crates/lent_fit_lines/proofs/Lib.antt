-- The modules of `lent_fit_lines`' proofs.
pub mod Laws
pub mod Lines
pub mod Openings
