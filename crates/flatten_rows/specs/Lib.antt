-- The modules of `flatten_rows`'s specs.
pub mod Laid
pub mod Source
pub mod Shallow
pub mod Made
