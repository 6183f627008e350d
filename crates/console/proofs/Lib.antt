pub mod Moved
pub mod Rounds
