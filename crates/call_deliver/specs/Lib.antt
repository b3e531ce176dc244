-- The modules of `call_deliver`'s specs.
pub mod Delivered
