pub mod Names
pub mod Apart
pub mod ByName
pub mod Cleaning
