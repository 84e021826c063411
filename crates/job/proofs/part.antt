-- Laws on the search for a contour.
pub mod PartLaws
pub mod PartBytes
