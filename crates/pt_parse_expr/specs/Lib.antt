pub mod Words
pub mod Symbols
pub mod Grammar
pub mod Spelling
pub mod Limits
pub mod Reader
pub mod Placing
