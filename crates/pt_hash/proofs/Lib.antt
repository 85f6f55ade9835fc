pub mod Powers
pub mod Splitting
pub mod Residues
