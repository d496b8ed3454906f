pub mod Word
pub mod Command
pub mod CommandView
pub mod Cut
pub mod Reply
pub mod Written
