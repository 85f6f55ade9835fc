pub mod Book
pub mod Laws
pub mod Tuple
pub mod Hashed
pub mod Holders
pub mod Faults
