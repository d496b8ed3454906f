pub mod Meant
pub mod Naming
pub mod Faults
pub mod Structure
