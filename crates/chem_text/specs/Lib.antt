pub mod Cursor
pub mod Line
pub mod Number
