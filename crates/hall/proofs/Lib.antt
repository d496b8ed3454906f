-- The lemmas, lowest first.
pub mod Runs
pub mod Calls
pub mod Adding
pub mod Asking
pub mod Numbers
pub mod PinSteps
pub mod Pins
pub mod Turning
pub mod Joining
pub mod Splitting
pub mod Holding
pub mod Starting
pub mod Lasting
