pub mod Searched
pub mod Zipped
pub mod Modes
pub mod Reaching
pub mod Looking
pub mod OpenReturns
pub mod Steered
