-- The modules of `machine_delivery`'s specs.
pub mod Promises
