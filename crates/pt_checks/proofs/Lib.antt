pub mod Positions
pub mod Checking
pub mod Fitting
pub mod Given
pub mod Assigned
pub mod Lines
pub mod Sorting
pub mod Orders
