pub mod ListReads
pub mod Loops
pub mod Stops
pub mod NameReads
pub mod Puts
pub mod Tokens
pub mod TextLaws
