pub mod Values
pub mod CellGroups
pub mod ActSteps
pub mod ActFits
