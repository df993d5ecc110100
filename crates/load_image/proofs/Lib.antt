pub mod Overlaps
pub mod Lookups
pub mod FrozenLookups
pub mod Builds
pub mod Theorems
