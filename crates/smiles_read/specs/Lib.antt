pub mod Sketch
pub mod Faults
pub mod Reading
pub mod Limits
