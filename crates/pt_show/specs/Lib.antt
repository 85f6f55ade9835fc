pub mod Show
pub mod Structure
