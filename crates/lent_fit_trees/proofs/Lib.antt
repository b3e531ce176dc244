-- The modules of `lent_fit_trees`'s proofs.
pub mod Laws
