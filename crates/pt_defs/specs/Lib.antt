pub mod Spelling
pub mod Fitting
pub mod Files
pub mod Reading
pub mod Given
pub mod Places
pub mod Laws
