pub mod Frames
pub mod FreeList
