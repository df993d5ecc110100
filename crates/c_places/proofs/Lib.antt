pub mod Growing
pub mod Finding
pub mod Standing
pub mod LabelLaws
