-- The laws that the proofs of `plain_rows` share.
pub mod Rows
pub mod Loops
pub mod Atoms
pub mod Sets
