-- The modules of `borrow_table`'s specs.
pub mod Gathered
pub mod Rounds
pub mod Scan
pub mod Table
