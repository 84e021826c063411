-- `uses` meets its contract: what has been found, or is used by a spline that is left, is what the whole row uses.
use mathlib.Core.Path.{◌≡◌}
use mathlib.Core.Bool.{◌||◌}
use lib.ListN.{drop}
use Rattle.coloring.specs.Recolor as defined
use Rattle.coloring.proofs.recolor.uses.Given as goal

abbrev pub invariant-loop-i : goal.invariant-loop-i
invariant-loop-i l = (l.found || defined.uses l.c (drop l.i l.coloring) (drop l.i l.entries)) ≡ defined.uses l.c l.coloring l.entries
