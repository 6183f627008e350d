pub mod Calls
pub mod Rings
pub mod Rounds
pub mod Slices
