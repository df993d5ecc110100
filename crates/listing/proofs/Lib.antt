pub mod Loops
pub mod OneTable
pub mod Texts
pub mod GraphListable
