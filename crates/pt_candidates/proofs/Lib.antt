pub mod InOrder
pub mod Few
pub mod Steps
pub mod Collected
pub mod Kept
pub mod Taken
