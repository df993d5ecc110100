pub mod Described
pub mod Flows
