pub mod Sound
pub mod Saved
pub mod Effects
