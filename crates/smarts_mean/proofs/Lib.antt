pub mod Ascending
pub mod Chosen
pub mod Rings
pub mod Bits
pub mod Truths
