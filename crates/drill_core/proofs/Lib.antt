pub mod Limits
pub mod Worlds
pub mod Faults
pub mod Drills
mod Settings
