pub mod Equations
pub mod Fine
pub mod PiecesFine
pub mod CodeFine
pub mod BlocksFine
pub mod Addresses
pub mod ProgramFine
