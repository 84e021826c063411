-- The definitions that the contracts of edges and their colours cite.
pub mod EdgeColor
pub mod EdgeSegment
pub mod Examples
