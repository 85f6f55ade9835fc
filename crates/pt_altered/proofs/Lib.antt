pub mod Found
pub mod Tables
pub mod Means
pub mod Stays
pub mod Sound
pub mod Parts
pub mod Kept
