-- The definitions that the contracts for C cite besides those of the crates below.
pub mod Answers
pub mod EdgeColoring
pub mod JobFile
pub mod SplineTable
