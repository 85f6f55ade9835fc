pub mod Agreeing
pub mod Growing
pub mod Taken
pub mod Renewing
