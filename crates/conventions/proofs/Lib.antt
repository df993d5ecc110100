pub mod Tables
pub mod Together
pub mod Steps
pub mod SoundFacts
pub mod Sound
