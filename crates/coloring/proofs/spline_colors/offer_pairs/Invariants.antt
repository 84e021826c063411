-- `offer_pairs` meets its contract: the pairs from a place on, offered to the table as it is, give the whole.
use mathlib.Core.List.{map}
use lib.ListN.{length}
use Rattle.coloring.specs.SplineTable.{table_in, SameTable}
use Rattle.coloring.specs.Sequence.{run}
use Rattle.coloring.specs.Pairs.{pair_of}
use Rattle.coloring.proofs.spline_colors.OrderLaws.{Offers}
use Rattle.coloring.proofs.spline_colors.offer_pairs.Given as goal

abbrev pub invariant-loop-edge : goal.invariant-loop-edge
invariant-loop-edge l = Offers (length l.initial.table.coloring.now) l.edges (run (table_in l.initial.table) (map pair_of l.edges)).table
    (table_in l.table) l.edge-index
    × SameTable l.initial.table l.table
