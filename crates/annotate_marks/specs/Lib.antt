-- The modules of `annotate_marks`' specs.
pub mod Took
