pub mod Name
pub mod Disk
pub mod Listed
pub mod World
pub mod Counts
pub mod Images
pub mod Replacement
