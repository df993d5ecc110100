pub mod Steps
pub mod Longest
pub mod Signs
pub mod Numerals
pub mod Fronts
