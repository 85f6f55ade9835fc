pub mod OfActions
pub mod OfStatements
pub mod Whole
pub mod Storing
