pub mod Computed
pub mod Placed
pub mod WorkedRuns
pub mod DeepRuns
pub mod WorkedNexts
pub mod FoundProcedures
pub mod SmallTextRuns
