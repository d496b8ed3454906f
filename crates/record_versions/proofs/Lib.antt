pub mod Ahead
pub mod Listed
pub mod Order
pub mod Passing
pub mod Walk
