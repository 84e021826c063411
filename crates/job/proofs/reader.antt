-- Laws on the reader: its buffers follow the job, and what it delivers.
pub mod FillLaws
pub mod DeliverLaws
