-- Laws on the buffers of a job: written from the front, and a record more.
pub mod BufferLaws
pub mod StoredLaws
