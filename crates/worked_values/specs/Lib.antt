pub mod TestMachine
pub mod Samples
