pub mod Within
pub mod Bounds
pub mod Fewer
pub mod More
pub mod Made
