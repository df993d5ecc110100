pub mod Ranges
pub mod Faults
pub mod Order
pub mod Accesses
pub mod Placed
