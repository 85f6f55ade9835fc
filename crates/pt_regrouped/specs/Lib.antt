pub mod NewParts
pub mod Regrouped
pub mod Steps
