-- The modules of `lent_judge`'s specs.
pub mod Judging
