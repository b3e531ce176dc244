-- The modules of `machine_lines`' specs.
pub mod Lines
