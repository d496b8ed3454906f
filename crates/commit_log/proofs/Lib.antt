mod Answered
mod BaseTaken
mod OneBase
mod OneEntry
mod OneLog
pub mod Taken
