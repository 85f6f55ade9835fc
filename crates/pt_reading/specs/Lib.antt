pub mod Reading
pub mod Blank
pub mod Script
pub mod Taking
