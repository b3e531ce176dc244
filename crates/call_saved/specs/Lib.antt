-- The modules of `call_saved`'s specs.
pub mod Left
