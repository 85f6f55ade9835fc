pub mod Named
pub mod Held
pub mod Mirrored
pub mod Story
pub mod Places
pub mod Halves
pub mod Filled
pub mod Picked
