-- Laws on the directions of edges.
pub mod DirectionLaws
