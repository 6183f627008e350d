pub mod Clearing
pub mod Composing
pub mod Counting
pub mod Stepping
pub mod Turning
