pub mod Bytes
pub mod Numbers
pub mod Instructions
pub mod Program
pub mod Places
pub mod Executable
