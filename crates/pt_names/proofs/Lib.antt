pub mod Spots
pub mod Owners
pub mod OptionCases
