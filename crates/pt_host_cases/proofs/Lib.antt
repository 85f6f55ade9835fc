pub mod Present
pub mod Saying
