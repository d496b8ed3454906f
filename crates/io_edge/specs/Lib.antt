pub mod Faults
pub mod Source
pub mod Sink
pub mod Buffer
pub mod Lines
pub mod Cut
pub mod NextLine
pub mod Steps
