pub mod Marks
pub mod Entries
pub mod Held
pub mod Keeping
pub mod Agreement
pub mod Views
