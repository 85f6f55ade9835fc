pub mod Naming
pub mod HowMany
pub mod Turns
pub mod Rows
pub mod Leaving
pub mod Resting
