pub mod Inputs
pub mod Operands
pub mod Promises
