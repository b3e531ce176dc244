-- The modules of `call_load`'s specs.
pub mod Loading
