-- Laws on outline buffers: the edges that they stand for, their checks, edges that are being stored.
pub mod EdgeLaws
pub mod CheckLaws
pub mod CutLaws
pub mod StoreLaws
