-- `is_symmetric` meets its contract: `good` says it of the rows passed.
use mathlib.Core.Path.{◌≡◌}
use mathlib.Core.Bool.{◌&&◌}
use lib.Dec.{eqb}
use Rattle.coloring.specs.SplineTable.{all_below, entry, mirrored}
use Rattle.coloring.proofs.edge_matrix.EdgeMatrix.is_symmetric.Given as goal

abbrev pub invariant-loop-i : goal.invariant-loop-i
invariant-loop-i l = l.good ≡ all_below l.i (λ k. mirrored l.self.n l.self.entries.now k && eqb (entry l.self.n l.self.entries.now k k) 0)
