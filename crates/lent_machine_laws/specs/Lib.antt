-- The modules of `lent_machine_laws`' specs.
pub mod Stands
pub mod Tables
