pub mod Padding
pub mod Rising
pub mod Sorted
pub mod Neighbours
pub mod Pairs
pub mod Updated
pub mod Fronts
