pub mod PlainLaws
pub mod CallLaws
pub mod GoesLaws
pub mod StepPlaces
