-- `split_edges` meets its contract: i edges from the corner on are written, in thirds.
use mathlib.Core.List.{map, flatten}
use lib.ListN.{take}
use Rattle.coloring.specs.Places.{rotate}
use Rattle.coloring.specs.Layout.{thirds}
use Rattle.coloring.specs.Outline.{StoredFrom}
use Rattle.coloring.specs.Contours.{stored_edges}
use Rattle.coloring.proofs.layout.split_edges.Given as goal

abbrev pub invariant-loop-i : goal.invariant-loop-i
invariant-loop-i l = StoredFrom l.to (flatten (map thirds (take l.i (rotate l.corner (stored_edges l.edges))))) l.initial.out l.out
