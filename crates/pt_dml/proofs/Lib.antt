pub mod Lists
pub mod Now
pub mod Rounds
pub mod Adding
pub mod Models
pub mod Changes
pub mod Ends
