pub mod Shown
pub mod Guests
pub mod Doing
pub mod Ran
