pub mod Ascending
pub mod Right
pub mod Noted
pub mod Rows
pub mod Named
pub mod Kept
