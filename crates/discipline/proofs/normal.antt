-- The normal form: the code worked on values is the meaning.
pub mod Agree
pub mod Lines
pub mod Retains
pub mod Parameters
pub mod Running
pub mod Trace
