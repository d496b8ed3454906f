pub mod Ahead
pub mod Entries
pub mod Forms
pub mod Readings
pub mod Rows
