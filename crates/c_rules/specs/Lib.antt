pub mod Parts
pub mod Distinct
pub mod Spans
pub mod Scopes
pub mod Texts
