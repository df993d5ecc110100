pub mod Branches
pub mod Serving
pub mod FirstCells
pub mod Stretches
pub mod Going
pub mod LineLaws
