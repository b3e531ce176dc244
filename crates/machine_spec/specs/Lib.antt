-- The modules of `machine_spec`' specs.
pub mod Machine
pub mod Parts
pub mod TreeLaws
pub mod Lengths
pub mod LineLaws
pub mod Delivery
