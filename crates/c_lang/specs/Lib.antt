pub mod Value
pub mod State
pub mod Step
pub mod Run
pub mod Items
pub mod StaticRules
pub mod Spellable
