pub mod Found
pub mod Left
pub mod Readings
pub mod Names
pub mod Cursors
