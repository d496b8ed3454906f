pub mod Answers
pub mod Found
pub mod Fronts
pub mod Inside
pub mod Journal
pub mod Looks
pub mod Records
pub mod Standing
