pub mod OneReading
pub mod Known
pub mod Faults
pub mod Blanks
pub mod Cuts
pub mod TakingLemmas
