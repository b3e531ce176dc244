-- The modules of `discipline`'s proofs.
pub mod store
pub mod normal
pub mod machine
