-- The modules of `lent_fit_lines`' specs.
pub mod Walk
