pub mod Runs
pub mod Mentions
pub mod Links
pub mod Influence
pub mod Search
pub mod OneTable
