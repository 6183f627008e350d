pub mod Arithmetic
pub mod Bytes
pub mod Printing
pub mod Laws
