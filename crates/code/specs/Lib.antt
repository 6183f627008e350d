pub mod Encoding
pub mod Patterns
pub mod Objects
pub mod Laws
