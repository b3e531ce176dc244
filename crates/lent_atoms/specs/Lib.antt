-- The modules of `lent_atoms`' specs.
pub mod Told
