-- Laws of the recolouring.
pub mod RowLaws
pub mod FreeColorLaws
pub mod QueueLaws
pub mod UncolorLaws
pub mod WalkLaws
pub mod ProperLaws
