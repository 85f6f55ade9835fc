pub mod Altered
pub mod Actions
pub mod Alter
pub mod Kept
