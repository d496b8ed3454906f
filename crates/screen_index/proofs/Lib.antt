pub mod Blocks
mod Columns
pub mod Nexts
pub mod Places
pub mod Words
