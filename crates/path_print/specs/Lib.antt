pub mod Path
pub mod Implied
pub mod Prints
pub mod Texts
pub mod Squares
pub mod Sheets
pub mod Arms
