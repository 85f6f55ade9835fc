pub mod Stops
pub mod Listing
pub mod OfRows
pub mod OfTails
pub mod OfStatements
pub mod Whole
pub mod Storing
