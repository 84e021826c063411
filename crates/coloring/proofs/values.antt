-- Laws on what the splines get: the colours of one contour, and that a split changes nothing of them.
pub mod ColorLaws
