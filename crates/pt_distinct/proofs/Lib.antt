pub mod Lower
pub mod Added
pub mod Told
