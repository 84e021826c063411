-- `enter_pairs` meets its contract: the pairs from a place on, entered into what is, give the whole.
use mathlib.Core.Path.{◌≡◌}
use mathlib.Core.List.{map}
use lib.ListN.{length, drop}
use Rattle.coloring.specs.SplineTable.{SameTable}
use Rattle.coloring.specs.Pairs.{pair_of}
use Rattle.coloring.specs.SplineColors.{enter_pairs}
use Rattle.coloring.proofs.spline_colors.enter_pairs.Given as goal

abbrev pub invariant-loop-edge : goal.invariant-loop-edge
invariant-loop-edge l =
    (enter_pairs (length l.initial.table.coloring.now) (map pair_of (drop l.edge-index l.edges)) l.table.edge_matrix.now
    ≡ enter_pairs (length l.initial.table.coloring.now) (map pair_of l.edges) l.initial.table.edge_matrix.now)
    × (length l.table.edge_matrix.now ≡ length l.initial.table.edge_matrix.now)
    × (l.table.coloring.now ≡ l.initial.table.coloring.now)
    × SameTable l.initial.table l.table
