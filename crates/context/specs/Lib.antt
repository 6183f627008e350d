pub mod Scopes
pub mod Typing
pub mod Items
pub mod Resolving
