pub mod Kind
pub mod Work
pub mod Parts
pub mod Inserts
