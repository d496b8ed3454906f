pub mod Electrons
pub mod Counts
pub mod Huckel
pub mod Links
pub mod Distances
pub mod Route
pub mod Tallies
