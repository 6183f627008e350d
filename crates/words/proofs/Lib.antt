pub mod Blanks
pub mod Digits
pub mod Numerals
pub mod Quotients
pub mod Replaced
