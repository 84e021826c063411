-- `identify_corners` meets its contract: the edges before i have their flags, and `prev` is the direction in which the
-- edge before i ends.
use mathlib.Core.Path.{◌≡◌}
use lib.ListN.{length, drop}
use Rattle.coloring.specs.Lists.{over_from}
use Rattle.coloring.specs.Corners.{flags_after, flags_between}
use Rattle.coloring.specs.Directions.{decode_ends}
use Rattle.coloring.proofs.corners.identify_corners.Given as goal

abbrev pub invariant-loop-i : goal.invariant-loop-i
invariant-loop-i l = let found = decode_ends (length l.initial.flags) l.directions in
    flags_between l.threshold found ≡ over_from l.i (flags_after l.threshold l.prev (drop l.i found)) l.flags
