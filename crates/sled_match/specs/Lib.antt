pub mod Matched
pub mod Ready
pub mod Tree
pub mod Pruned
pub mod Split
pub mod Allows
pub mod Walks
pub mod TreeSizes
