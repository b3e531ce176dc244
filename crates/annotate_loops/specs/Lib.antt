-- The modules of `annotate_loops`' specs.
pub mod Loops
