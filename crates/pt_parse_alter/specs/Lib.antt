pub mod Statements
pub mod Spelling
pub mod Reader
