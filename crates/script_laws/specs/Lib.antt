-- The modules of `script_laws`' specs.
pub mod Reading
pub mod Faults
pub mod Nodes
pub mod Admitted
