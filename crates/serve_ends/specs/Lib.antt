-- Status, Ends and Serving are for callers.
pub mod Status
pub mod Ends
pub mod Serving
pub mod Slots
