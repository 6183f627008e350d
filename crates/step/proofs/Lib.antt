pub mod Elements
pub mod Entering
pub mod Fetching
pub mod Passing
pub mod Soundness
pub mod Stacking
