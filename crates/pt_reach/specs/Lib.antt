pub mod May
pub mod Scales
pub mod Reaching
pub mod Steps
pub mod Domains
pub mod Kept
pub mod Laws
