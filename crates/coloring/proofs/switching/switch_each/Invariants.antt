-- `switch_each` meets its contract: after some splines, their colours stand there, and the pen goes on.
use Prim.Native.Nat.{◌-◌}
use lib.ListN.{length}
use Rattle.coloring.specs.Switching.{switch_each}
use Rattle.coloring.proofs.switching.DrawLaws.{Drawing}
use Rattle.coloring.proofs.switching.switch_each.Given as goal

abbrev pub invariant-loop-color : goal.invariant-loop-color
invariant-loop-color l =
    let n = length l.initial.colors in
    Drawing (switch_each n l.initial.pen) n l.color-index l.colors (switch_each (n - l.color-index) l.pen)
