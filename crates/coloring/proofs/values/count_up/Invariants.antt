-- `count_up` meets its contract: the numbers before i stand there.
use mathlib.Core.Path.{◌≡◌}
use lib.ListN.{take}
use Rattle.coloring.specs.Lists.{range}
use Rattle.coloring.proofs.values.count_up.Given as goal

abbrev pub invariant-loop-i : goal.invariant-loop-i
invariant-loop-i l = take l.i l.numbers ≡ range 0 l.i
