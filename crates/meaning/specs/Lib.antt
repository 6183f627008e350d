pub mod World
pub mod Evaluation
pub mod Trace
