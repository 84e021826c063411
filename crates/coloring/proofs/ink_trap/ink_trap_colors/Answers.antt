-- `ink_trap_colors` meets its contract: with two or three splines by the law that simple colouring gives the same.
use mathlib.Core.Path.{sym, ◌∙◌}
use native.Mathlib.Omega.{arith}
use Rattle.coloring.specs.Contours.{contour_in}
use Rattle.coloring.proofs.outline.EdgeLaws.{edges-length}
use Rattle.coloring.proofs.ink_trap.MajorLaws.{few_simple}
use Rattle.coloring.proofs.ink_trap.ink_trap_colors.Goals as goal

pub returns-then-colors-le3 : goal.returns-then-colors-le3
returns-then-colors-le3 c =
    let contour = c.args.contour in
    let long = contour.flagged ∙ sym (edges-length contour.edges.kinds.now contour.edges.points.now) in
    rw (few_simple (contour_in contour) c.args.pen long (omega arith) (omega (arith, c.requires.1)), ← c.requires.1) c.simple_colors.ensures
