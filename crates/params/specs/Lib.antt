pub mod SummaryLaws
pub mod ByEntry
pub mod Parts
pub mod Leading
pub mod Accepted
pub mod Cells
pub mod Listed
