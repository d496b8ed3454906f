-- Passes and Desks are for callers; Histories is of the value under the gate, and Answers for private clauses alone.
pub mod Histories
pub mod Passes
pub mod Desks
pub mod Answers
