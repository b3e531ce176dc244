-- The modules of `machine_loops`' specs.
pub mod Loops
