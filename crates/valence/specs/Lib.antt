pub mod Valence
pub mod Filled
pub mod Suppressed
