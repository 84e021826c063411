-- `unit_directions` meets its contract: the edges before `at` have their directions, whatever contour they are of.
use mathlib.Core.List.{List}
use Prim.Native.Nat.{ℕ}
use lib.Ieee.{Float}
use lib.ListN.{length}
use Rattle.geometry.specs.declared.edge_segment.EdgeSegment.{EdgeSegment}
use Rattle.coloring.specs.Corners.{stand_in_marks}
use Rattle.coloring.specs.Contours.{stored_edges}
use Rattle.coloring.specs.Directions.{direction_places}
use Rattle.coloring.proofs.outline.CutLaws.{ContoursPassed}
use Rattle.coloring.proofs.directions.DirectionLaws.{Directing}
use Rattle.coloring.proofs.directions.unit_directions.Given as goal

-- both buffers, up to place `at`
pub record Written (edges : List EdgeSegment) (at : ℕ) (out : List Float) (marks : List ℕ) : Type 0 where
  pub directed : Directing 4 direction_places edges at out
  pub marked : Directing 2 stand_in_marks edges at marks

abbrev pub invariant-loop-i : goal.invariant-loop-i
invariant-loop-i l = Written (stored_edges l.edges) l.i l.out l.marks

abbrev pub invariant-loop-length : goal.invariant-loop-length
invariant-loop-length l =
    ContoursPassed l.lengths (length l.edges.kinds.now) l.at l.length-index × Written (stored_edges l.edges) l.at l.out l.marks
