-- The modules of `script_read`'s specs.
pub mod Told
pub mod Table
pub mod Starts
