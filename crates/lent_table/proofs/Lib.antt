-- The modules of `lent_table`'s laws.
pub mod Tables
pub mod Rounds
