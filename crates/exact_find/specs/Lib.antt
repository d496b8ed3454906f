pub mod Same
pub mod Key
pub mod Pairs
pub mod Colours
pub mod Levels
