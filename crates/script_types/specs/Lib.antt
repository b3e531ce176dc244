-- The modules of `script_types`' specs.
pub mod Functions
