pub mod TestLaws
pub mod SmallMachine
pub mod SoundSamples
