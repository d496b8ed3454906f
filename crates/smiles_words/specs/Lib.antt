pub mod Atom
pub mod Follow
pub mod Words
pub mod Parts
