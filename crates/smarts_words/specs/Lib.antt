pub mod Prims
pub mod Expression
pub mod Bracket
pub mod Bonds
pub mod Words
pub mod Follow
pub mod State
