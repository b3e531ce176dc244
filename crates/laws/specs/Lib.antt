-- The modules of `laws`' specs.
pub mod Cells
pub mod Counts
pub mod Endings
pub mod Files
pub mod Levels
pub mod Lists
pub mod Numbers
pub mod Releases
pub mod Routines
pub mod SavedFiles
pub mod Tests
pub mod Updates
pub mod Values
