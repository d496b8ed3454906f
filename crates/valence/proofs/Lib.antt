pub mod Sums
pub mod Hydrogens
pub mod Flags
pub mod Renumbering
pub mod Kept
pub mod Staying
pub mod Law
