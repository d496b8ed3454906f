pub mod Cuts
pub mod Picks
