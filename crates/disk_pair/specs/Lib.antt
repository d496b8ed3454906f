pub mod Changed
pub mod Choices
pub mod Gives
pub mod Loads
pub mod Pairs
pub mod Puts
pub mod Stands
pub mod Term
