-- The laws that the proofs of `store_words` share.
pub mod Tables
pub mod Each
pub mod CellWords
pub mod Naming
pub mod Puts
pub mod Slots
pub mod Written
pub mod Counting
pub mod Spelling
