pub mod Longest
pub mod Steps
pub mod Blanks
pub mod Words
