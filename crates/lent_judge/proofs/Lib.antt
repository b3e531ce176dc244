-- The modules of `lent_judge`'s laws.
pub mod Laws
