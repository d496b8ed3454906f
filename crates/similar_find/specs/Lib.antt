pub mod Score
pub mod Board
