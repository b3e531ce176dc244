-- The modules of `words`' specs.
pub mod Words
