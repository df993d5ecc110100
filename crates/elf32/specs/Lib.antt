pub mod Numbers
pub mod Headers
pub mod Faults
pub mod Spans
pub mod Symbols
pub mod Reading
