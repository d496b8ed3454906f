-- The words of the gate's contracts, lowest first. Rules is for the steps on the table alone; of Steps, callers need the
-- words that its head names.
pub mod Numbers
pub mod Rules
pub mod Steps
pub mod Passes
pub mod Turns
