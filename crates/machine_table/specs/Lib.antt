-- The modules of `machine_table`'s specs.
pub mod Positions
