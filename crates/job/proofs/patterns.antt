-- Laws on numbers and bit patterns, and what the tests of patterns mean of the floats.
pub mod PatternLaws
pub mod PatternMeaning
pub mod ByteLaws
