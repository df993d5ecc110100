pub mod Names
pub mod Facts
pub mod Said
pub mod Areas
pub mod Faults
pub mod Normal
