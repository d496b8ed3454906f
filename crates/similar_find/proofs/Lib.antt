pub mod Bits
pub mod Order
pub mod Ranked
pub mod Placed
