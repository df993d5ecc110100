pub mod Files
pub mod Pieces
pub mod Longer
pub mod BuiltLaws
pub mod RunLaws
pub mod Answered
pub mod Feeding
pub mod ShippingLaws
