pub mod Tokens
pub mod Borrowed
pub mod Lexemes
pub mod Scanning
pub mod Trees
pub mod Spelling
pub mod Reading
