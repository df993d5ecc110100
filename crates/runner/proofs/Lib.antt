pub mod Serving
pub mod Stepping
pub mod Beginning
pub mod Stretches
pub mod Going
