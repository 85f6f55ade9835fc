pub mod Rows
pub mod Tails
pub mod Statements
pub mod Spelling
pub mod RowReader
pub mod TailReader
pub mod Reader
