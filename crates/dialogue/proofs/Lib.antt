pub mod Reading
mod Requests
mod Taking
pub mod Wholes
pub mod Exchanges
pub mod Turning
