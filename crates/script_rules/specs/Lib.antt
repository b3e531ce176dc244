-- The modules of `script_rules`' specs.
pub mod Rules
