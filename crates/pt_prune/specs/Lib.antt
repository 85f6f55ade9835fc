pub mod Lone
pub mod Marks
pub mod Placing
