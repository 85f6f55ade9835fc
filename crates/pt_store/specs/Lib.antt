pub mod Stops
pub mod Entries
pub mod Store
pub mod Step
pub mod Batch
pub mod Reshape
pub mod Contents
