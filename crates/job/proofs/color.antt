-- Laws on the colouring of a job that was read, and the sizes of its coloured shape.
pub mod ColorLaws
pub mod ShapeLaws
pub mod AcceptLaws
