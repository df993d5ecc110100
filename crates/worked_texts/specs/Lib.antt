pub mod SmallMachine
pub mod PrintedPrograms
