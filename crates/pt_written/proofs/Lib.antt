pub mod Digits
pub mod WrittenTuples
pub mod KeyTexts
pub mod WrittenValues
