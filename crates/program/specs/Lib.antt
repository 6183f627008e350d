pub mod Core
pub mod Legal
pub mod Flat
