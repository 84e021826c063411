-- `compare_neighbors` meets its contract: the contours passed have their flags.
use mathlib.Core.Path.{◌≡◌}
use lib.ListN.{length, drop}
use Rattle.coloring.specs.Lists.{over_from}
use Rattle.coloring.specs.Directions.{decode_ends, all_flags}
use Rattle.coloring.proofs.outline.CutLaws.{ContoursPassed}
use Rattle.coloring.proofs.corners.compare_neighbors.Given as goal

abbrev pub invariant-loop-length : goal.invariant-loop-length
invariant-loop-length l = let all = decode_ends (length l.initial.flags) l.directions in
    ContoursPassed l.lengths (length l.initial.flags) l.at l.length-index
    × (all_flags l.threshold l.lengths all ≡ over_from l.at (all_flags l.threshold (drop l.length-index l.lengths) (drop l.at all)) l.flags)
