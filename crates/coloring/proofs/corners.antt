-- Laws on corners: the flags of a contour, and the search for them.
pub mod FlagLaws
pub mod SearchLaws
pub mod FoundLaws
pub mod LengthLaws
