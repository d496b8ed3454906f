pub mod Base
pub mod Change
pub mod Entry
pub mod Log
