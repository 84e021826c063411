-- Theorems that several modules share: the answer and the text of a file, and the bytes that decide them.
pub mod AnswerLaws
pub mod FirstBytes
-- what a `?` passes on
pub mod PassedOn
