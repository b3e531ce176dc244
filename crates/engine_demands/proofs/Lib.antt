-- The modules of `engine_demands`' proofs.
pub mod Called
pub mod CalledCode
