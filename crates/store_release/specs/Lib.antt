-- The modules of `store_release`'s specs.
pub mod Releasing
