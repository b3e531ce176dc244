-- The modules of `script_count`'s specs.
pub mod Count
