pub mod Walk
pub mod BondRings
pub mod Search
pub mod Bridges
pub mod Least
pub mod Strip
