-- The laws that the proofs of `annotate_loops` share.
pub mod LoopRows
