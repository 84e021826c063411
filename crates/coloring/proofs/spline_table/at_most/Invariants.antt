-- `at_most` meets its contract: `good` says it of the numbers passed.
use mathlib.Core.Path.{◌≡◌}
use lib.Dec.{leb}
use lib.ListN.{get_or}
use Rattle.coloring.specs.SplineTable.{all_below}
use Rattle.coloring.proofs.spline_table.at_most.Given as goal

abbrev pub invariant-loop-value : goal.invariant-loop-value
invariant-loop-value l = l.good ≡ all_below l.value-index (λ k. leb (get_or l.values k 0) l.most)
