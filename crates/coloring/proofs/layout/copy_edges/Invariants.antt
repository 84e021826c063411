-- `copy_edges` meets its contract: i edges are written.
use lib.ListN.{take}
use Rattle.coloring.specs.Outline.{StoredFrom}
use Rattle.coloring.specs.Contours.{stored_edges}
use Rattle.coloring.proofs.layout.copy_edges.Given as goal

abbrev pub invariant-loop-i : goal.invariant-loop-i
invariant-loop-i l = StoredFrom l.to (take l.i (stored_edges l.edges)) l.initial.out l.out
