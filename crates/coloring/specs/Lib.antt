-- The definitions that the contracts of the colouring cite.
pub mod Limits
pub mod Refusal
pub mod Answers
pub mod Fill
pub mod Seed
pub mod Lists
pub mod Places
-- outlines, corners and splines
pub mod Switching
pub mod Corners
pub mod Trichotomy
pub mod Layout
pub mod Teardrop
pub mod Splines
pub mod Simple
pub mod InkTrap
pub mod Values
pub mod Outline
pub mod Contours
pub mod Directions
pub mod Shape
pub mod EdgeColoring
-- the spline table
pub mod Queue
pub mod Recolor
pub mod SplineTable
pub mod Sequence
-- the splines' colours from their distances
pub mod PairOrder
pub mod Pairs
pub mod SecondDegree
pub mod SplineColors
-- laws that crates above cite too: truth values, how long the parts of a result are, how it is painted and delivered
pub mod Bools
pub mod Sizes
pub mod PaintLaws
pub mod DeliverLaws
-- worked examples
pub mod OfferExamples
pub mod SequenceExamples
pub mod SplineColorsExamples
pub mod Examples
pub mod ByDistanceExamples
pub mod DirectionExamples
pub mod StandInExamples
pub mod BalancedExamples
pub mod TenExamples
