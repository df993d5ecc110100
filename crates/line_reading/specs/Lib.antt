pub mod Signs
pub mod Readings
pub mod Spelling
pub mod Texts
pub mod LineLists
