pub mod Bytes
pub mod Tokens
pub mod Lexemes
pub mod Lines
pub mod Splits
pub mod Faults
pub mod Readings
pub mod Spelling
