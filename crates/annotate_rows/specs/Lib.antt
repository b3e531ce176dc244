-- The modules of `annotate_rows`'s specs.
pub mod Wrote
