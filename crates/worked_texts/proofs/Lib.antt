pub mod SoundMachine
pub mod FormLaws
pub mod PrintedSpelled
