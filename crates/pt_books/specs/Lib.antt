pub mod Halts
pub mod Books
