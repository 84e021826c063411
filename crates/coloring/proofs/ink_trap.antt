-- Laws on ink-trap corners: how they are measured, marked and coloured.
pub mod MeasureLaws
pub mod CornerLaws
pub mod MajorLaws
