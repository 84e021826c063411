-- `uncolor_from` meets its contract: what is left to do from here equals the whole.
use mathlib.Core.Path.{◌≡◌}
use Prim.Native.Nat.{◌-◌}
use lib.ListN.{length}
use Rattle.coloring.specs.Recolor.{uncolor_from, Uncoloring, recoloring}
use Rattle.coloring.proofs.recolor.Walker.uncolor_from.Given as goal

abbrev pub invariant-loop-i : goal.invariant-loop-i
invariant-loop-i l = Uncoloring (recoloring l.self) l.entries l.c
    × (length l.self.coloring.now ≡ length l.initial.self.coloring.now)
    × (uncolor_from l.entries l.c l.i (l.to - l.i) (recoloring l.self)
    ≡ uncolor_from l.entries l.c l.from (l.to - l.from) (recoloring l.initial.self))
    × (l.self.coloring.ghost_name ≡ l.initial.self.coloring.ghost_name)
