-- The laws that the proofs of `annotate_rows` share.
pub mod Rows
pub mod Names
pub mod UsedPast
