pub mod Beginning
pub mod Resuming
pub mod Executing
