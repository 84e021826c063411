-- Laws of the spline table and of offers to it.
pub mod TableLaws
pub mod OfferLaws
pub mod ClashLaws
pub mod SequenceRule
