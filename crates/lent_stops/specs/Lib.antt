-- The modules of `lent_stops`' specs.
pub mod Stops
pub mod Sizes
pub mod Forms
pub mod Walks
pub mod Fits
pub mod Holds
pub mod Lines
