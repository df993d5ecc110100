pub mod Carried
pub mod FlowsAlike
