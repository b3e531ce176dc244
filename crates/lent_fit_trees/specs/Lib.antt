-- The modules of `lent_fit_trees`'s specs.
pub mod Trees
