-- The modules of `translate_script`'s specs.
pub mod Rows
pub mod Script
pub mod Depths
pub mod Places
