pub mod Named
pub mod Dropped
pub mod Counted
pub mod Repartitioned
pub mod Making
