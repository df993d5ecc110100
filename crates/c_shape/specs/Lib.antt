pub mod Functions
pub mod Performing
pub mod Laws
