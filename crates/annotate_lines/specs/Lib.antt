-- The modules of `annotate_lines`' specs.
pub mod Calls
