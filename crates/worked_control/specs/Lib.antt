pub mod WorkedMachine
pub mod WorkedPrograms
pub mod WorkedPoints
pub mod WorkedProcedures
pub mod SmallText
