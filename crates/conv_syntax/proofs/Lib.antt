pub mod LineReads
pub mod LineSound
pub mod Values
pub mod Puts
