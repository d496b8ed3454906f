mod Crash
mod Created
pub mod FrontLaws
pub mod LookLaws
pub mod OneWay
mod Opened
pub mod RecordLaws
mod Results
mod Shown
mod Steps
mod Tail
mod Told
mod Viewed
