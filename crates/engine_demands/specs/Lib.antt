-- The modules of `engine_demands`' specs.
pub mod Called
