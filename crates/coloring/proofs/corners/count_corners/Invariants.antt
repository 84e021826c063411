-- `count_corners` meets its contract: what was counted before a place, and the corners from there on, are all.
use mathlib.Core.Path.{◌≡◌}
use Prim.Native.Nat.{◌+◌, ◌≤◌}
use lib.ListN.{length, drop}
use Rattle.coloring.specs.Corners.{corners_from, corner_count}
use Rattle.coloring.proofs.corners.count_corners.Given as goal

abbrev pub invariant-loop-flag : goal.invariant-loop-flag
invariant-loop-flag l = (l.count ≤ l.flag-index) × (l.count + length (corners_from l.flag-index (drop l.flag-index l.flags)) ≡ corner_count l.flags)
