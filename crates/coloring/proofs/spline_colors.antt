-- The colours of the splines: laws and theorems.
pub mod CheckLaws
pub mod OrderLaws
pub mod KeptPairs
