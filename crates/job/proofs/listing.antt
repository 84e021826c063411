-- Laws on the text of an answer: how long it can get, and how it is written piece by piece.
pub mod ListingLaws
pub mod WriterLaws
