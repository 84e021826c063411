-- Laws on the entries: what a passed outline has, how long its result is, and how it is written.
pub mod DeliverLaws
pub mod WriteLaws
pub mod AnswerBounds
