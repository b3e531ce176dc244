-- The modules of `lent_hold_lines`' laws.
pub mod Arguments
pub mod Ways
