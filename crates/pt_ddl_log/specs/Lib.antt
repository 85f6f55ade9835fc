pub mod Chain
pub mod Clean
pub mod Laws
pub mod Tests
