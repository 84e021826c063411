-- Laws on how far a file is read.
pub mod ProgressLaws
pub mod ReadyLaws
pub mod SoFarLaws
