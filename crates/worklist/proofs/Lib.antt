pub mod Extended
pub mod Searched
pub mod AscendingLists
pub mod Members
pub mod Alike
