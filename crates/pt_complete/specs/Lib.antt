pub mod Fault
pub mod Making
