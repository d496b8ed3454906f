pub mod Cuts
pub mod Ended
pub mod OneCommand
pub mod Refused
pub mod Taken
