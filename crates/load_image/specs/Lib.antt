pub mod Areas
pub mod FrozenBytes
pub mod Mapped
pub mod Made
