pub mod Appending
pub mod Numerals
pub mod Reading
pub mod Hex
pub mod Lines
pub mod Widths
