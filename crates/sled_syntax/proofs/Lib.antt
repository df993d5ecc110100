pub mod PatternReads
pub mod PatternSound
pub mod FieldLoops
pub mod LineReads
pub mod LineSound
pub mod Values
