pub mod OneBook
pub mod Spots
pub mod Exits
