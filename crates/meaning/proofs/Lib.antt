pub mod Logs
pub mod Growing
pub mod Operations
pub mod Depths
pub mod Traces
