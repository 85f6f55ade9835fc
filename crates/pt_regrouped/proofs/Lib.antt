pub mod Bare
pub mod Beside
pub mod Kept
pub mod Counted
pub mod Sound
pub mod Ordered
pub mod Made
pub mod Answered
