pub mod Line
pub mod Counting
pub mod Spans
pub mod Instances
pub mod Walk
pub mod Steps
