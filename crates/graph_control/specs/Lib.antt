pub mod Charts
pub mod Finding
pub mod OpenCalls
pub mod Programs
pub mod Ways
