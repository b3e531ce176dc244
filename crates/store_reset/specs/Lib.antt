-- The modules of `store_reset`'s specs.
pub mod Resetting
