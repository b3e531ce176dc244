-- The modules of `lent_table`'s specs.
pub mod Rounds
