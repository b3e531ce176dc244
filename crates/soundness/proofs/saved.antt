-- Saved totals: written and read back, loaded into a store, and the swap.
pub mod Bytes
pub mod Shape
pub mod RoundTrip
pub mod Reading
pub mod Valued
pub mod Order
pub mod Rising
pub mod Loading
pub mod Filled
pub mod Restoring
pub mod Swaps
pub mod Swapping
pub mod Within
pub mod Stories
pub mod Sites
pub mod Instances
