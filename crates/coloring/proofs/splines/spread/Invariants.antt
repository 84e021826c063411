-- `spread` meets its contract: the places before i have their values, and `value` is that of the spline at i or before
-- it.
use mathlib.Core.Path.{◌≡◌}
use lib.ListN.{drop}
use Rattle.coloring.specs.Lists.{over_from}
use Rattle.coloring.specs.Splines.{spread}
use Rattle.coloring.proofs.splines.spread.Given as goal

abbrev pub invariant-loop-i : goal.invariant-loop-i
invariant-loop-i l = spread l.initial.value l.values l.flags ≡ over_from l.i (spread l.value l.rest.rest.now (drop l.i l.flags)) l.out
