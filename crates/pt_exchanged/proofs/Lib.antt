pub mod Few
pub mod Finds
pub mod Same
pub mod Means
pub mod Made
pub mod Tables
