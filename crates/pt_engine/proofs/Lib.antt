pub mod Overwrites
pub mod InputLemmas
pub mod AnswerLemmas
pub mod Unchanged
pub mod SessionLemmas
pub mod SayingLemmas
pub mod RunLemmas
