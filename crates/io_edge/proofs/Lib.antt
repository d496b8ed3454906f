pub mod Blocks
pub mod Cuts
pub mod TextLines
pub mod Answering
pub mod Outcome
