-- `is_mirrored` meets its contract: `good` says it of the entries passed.
use mathlib.Core.Path.{◌≡◌}
use lib.Dec.{eqb}
use Rattle.coloring.specs.SplineTable.{all_below, entry}
use Rattle.coloring.proofs.edge_matrix.EdgeMatrix.is_mirrored.Given as goal

abbrev pub invariant-loop-j : goal.invariant-loop-j
invariant-loop-j l = l.good ≡ all_below l.j (λ k. eqb (entry l.self.n l.self.entries.now l.i k) (entry l.self.n l.self.entries.now k l.i))
