pub mod ValueLaws
pub mod StepLaws
pub mod StepsFrom
pub mod StaticLaws
pub mod SpellingLaws
