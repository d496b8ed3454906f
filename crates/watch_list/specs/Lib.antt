pub mod Watches
pub mod Notes
pub mod Entries
