-- Laws on the square root, and the theorems that it is the nearest double: on patterns and on values.
pub mod RootFloor
pub mod SqrtGuess
pub mod SqrtNearest
mod SqrtOpen
pub mod SqrtRounded
pub mod SqrtScale
pub mod SqrtUnits
pub mod SqrtValues
