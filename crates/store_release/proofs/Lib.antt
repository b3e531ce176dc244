-- The laws that the proofs of `store_release` share.
mod Releasing
