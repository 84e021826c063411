-- The queue of a walk: its ring.
pub mod RingLaws
