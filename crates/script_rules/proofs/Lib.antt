-- The laws that the proofs of `script_rules` share.
pub mod Rules
