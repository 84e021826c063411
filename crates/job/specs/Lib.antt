-- The definitions that the contracts of the job file cite.
-- sizes
pub mod Limits
-- the file format: numbers, records, the job
pub mod Patterns
pub mod Records
pub mod Job
pub mod Progress
pub mod Buffers
pub mod Reader
-- reading and colouring in one
pub mod Color
-- the part of one contour
pub mod Part
-- the text of an answer
pub mod Listing
-- evaluated examples
pub mod Examples
