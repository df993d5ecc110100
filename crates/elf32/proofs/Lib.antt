pub mod FaultLaws
pub mod Rows
pub mod SpanLaws
