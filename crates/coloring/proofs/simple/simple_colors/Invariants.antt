-- `simple_colors` meets its contract: after i splines, their colours stand there, and the pen goes on.
use mathlib.Core.List.{◌∷◌}
use Prim.Native.Nat.{ℕ, ◌-◌}
use Rattle.coloring.specs.declared.switching.Pen.{Pen}
use Rattle.coloring.specs.Switching.{SplineColors}
use Rattle.coloring.specs.Simple.{simple_from}
use Rattle.coloring.proofs.switching.DrawLaws.{Drawing}
use Rattle.coloring.proofs.simple.simple_colors.Given as goal

abbrev pub all : Pen → ℕ → SplineColors
all first k =
    let rest = simple_from first.color k first in
    record { colors = first.color ∷ rest.colors; pen = rest.pen }

abbrev pub invariant-loop-i : goal.invariant-loop-i
invariant-loop-i l = Drawing (all l.initial.pen (l.k - 1)) l.k l.i l.colors (simple_from l.initial_color (l.k - l.i) l.pen)
