-- The definitions that the contracts of the number leaves cite.
pub mod Nan
pub mod Scalar
pub mod Sqrt
pub mod SqrtExamples
pub mod Vector2
