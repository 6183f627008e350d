pub mod Digits
pub mod Finding
pub mod Places
pub mod Seeking
pub mod Stepping
