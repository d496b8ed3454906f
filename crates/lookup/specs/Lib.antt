pub mod Asked
pub mod Fetches
pub mod Lists
pub mod Truths
pub mod Walks
