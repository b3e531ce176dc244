-- The modules of `semantics`' proofs.
pub mod Boards
