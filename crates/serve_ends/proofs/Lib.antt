-- The lemmas, lowest first.
pub mod Slots
pub mod AtDesk
pub mod Serving
pub mod Crossing
