-- The laws that the proofs of `annotate_lines` share.
pub mod Leaves
pub mod Handed
pub mod Arguments
