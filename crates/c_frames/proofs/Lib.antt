pub mod SlotLaws
pub mod StackLaws
