pub mod Firsts
pub mod Tuples
pub mod Orders
pub mod Rising
pub mod Standing
pub mod Once
