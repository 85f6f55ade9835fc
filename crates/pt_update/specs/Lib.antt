pub mod Kind
pub mod Changes
pub mod Deletes
pub mod Parts
pub mod Work
pub mod Updates
