pub mod BookMoves
pub mod Pushed
pub mod Stepped
pub mod ModelRows
pub mod RowEnds
pub mod Meanings
