-- The modules of `lent_hold_trees`' specs.
pub mod Walk
