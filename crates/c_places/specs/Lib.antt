pub mod Rest
pub mod Labels
