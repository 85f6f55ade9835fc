pub mod Columns
pub mod Found
pub mod FoundCond
pub mod Values
pub mod Kinds
pub mod Truths
pub mod Stepping
pub mod Agrees
