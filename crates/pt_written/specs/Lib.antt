pub mod Written
pub mod WrittenParts
pub mod Complete
pub mod Reading
pub mod ReadingValues
