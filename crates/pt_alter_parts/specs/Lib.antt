pub mod Redefined
pub mod Emptied
