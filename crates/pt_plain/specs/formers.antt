-- How `List` and `Held` keep what is in them. A type that holds itself through one of the two is checked by these files,
-- which the check finds by their names.
pub mod held
pub mod list
