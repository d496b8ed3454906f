mod Acknowledged
mod Ascending
mod ByCalls
pub mod Cuts
mod Finds
mod Growing
pub mod Joins
mod Kept
mod KeptRead
mod Made
pub mod Members
mod Openings
mod Owned
mod PagesRead
mod Paging
mod Parting
pub mod Picks
mod Pins
mod Pushed
mod Rebases
mod Slots
mod Sound
mod Told
