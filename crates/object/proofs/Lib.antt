pub mod Boundaries
pub mod Headers
pub mod Marking
pub mod OneAnswer
pub mod Sizes
pub mod Straying
