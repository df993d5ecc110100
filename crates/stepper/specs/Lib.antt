pub mod Shown
pub mod Ran
pub mod LineEnds
