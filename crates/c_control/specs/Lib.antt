pub mod Choice
pub mod Plans
pub mod Pieces
pub mod Services
pub mod Blocks
pub mod Programs
pub mod Frames
pub mod Shape
