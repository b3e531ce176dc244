-- The modules of `semantics_rows`'s specs.
pub mod Rows
