pub mod Working
pub mod Refusals
pub mod Samples
