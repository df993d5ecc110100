pub mod Sequence
pub mod Lengths
pub mod Placed
