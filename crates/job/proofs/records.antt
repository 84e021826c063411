-- Laws on records: what is found at one, and the records of a file one by one.
pub mod RecordLaws
pub mod ReadingLaws
pub mod BytesLaws
