-- The definitions that the contracts on recorded answers cite.
pub mod Words
pub mod Records
pub mod Examples
