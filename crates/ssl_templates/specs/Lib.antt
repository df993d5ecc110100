pub mod Params
pub mod Ranged
