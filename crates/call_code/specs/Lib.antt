-- The modules of `call_code`'s specs.
pub mod Delivering
