pub mod Lines
pub mod LineReaders
