-- Laws on splines: values spread over the edges, painted contours.
pub mod SpreadLaws
pub mod PaintLaws
