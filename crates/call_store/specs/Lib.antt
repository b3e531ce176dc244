-- The modules of `call_store`'s specs.
pub mod Left
pub mod Told
