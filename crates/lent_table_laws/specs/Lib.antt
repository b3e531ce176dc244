-- The modules of `lent_table_laws`' specs.
pub mod Spends
pub mod Trees
pub mod Whole
