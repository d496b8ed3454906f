-- The lemmas on the rule and its steps, lowest first.
pub mod Ids
pub mod Lists
pub mod Seats
pub mod Keeps
pub mod Adding
pub mod Opening
pub mod Turns
pub mod Parting
pub mod Joining
pub mod Closing
pub mod Learning
