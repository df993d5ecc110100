pub mod Places
pub mod Seen
pub mod Parts
pub mod GraphLaws
