-- The modules of `lent_counts`' specs.
pub mod Counted
