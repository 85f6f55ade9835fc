pub mod Dates
pub mod Civil
pub mod Reading
pub mod Spelled
pub mod Parts
pub mod Order
