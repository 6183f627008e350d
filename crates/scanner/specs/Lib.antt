pub mod Bytes
pub mod Tables
pub mod Found
pub mod Steps
pub mod Laws
