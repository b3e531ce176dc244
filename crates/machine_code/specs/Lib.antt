-- The modules of `machine_code`'s specs.
pub mod Reading
pub mod Rows
