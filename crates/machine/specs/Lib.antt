pub mod Runs
pub mod Machines
pub mod Answers
pub mod Turns
pub mod Laws
