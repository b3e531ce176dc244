-- The modules of `lent_hold_lines`' specs.
pub mod Lines
