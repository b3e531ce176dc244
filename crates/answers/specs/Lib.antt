-- The modules of `answers`' specs.
pub mod Numbers
