-- Laws on the layout: what a split leaves as it is.
pub mod SplitLaws
