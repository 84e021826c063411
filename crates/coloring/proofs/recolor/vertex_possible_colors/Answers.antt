-- `vertex_possible_colors` meets its contract: the sum of the three sets, which stays below 8.
use native.Mathlib.Omega.{arith}
use Rattle.coloring.specs.Recolor.{vertex_possible_colors}
use Rattle.coloring.proofs.recolor.FreeColorLaws.{possible-below}
use Rattle.coloring.proofs.recolor.vertex_possible_colors.Goals as goal

pub returns : goal.returns
unfolding vertex_possible_colors
returns c =
    rw (c.unless_used-first.ensures, c.unless_used-second.ensures, c.unless_used-third.ensures)
    (rw (c.uses.ensures, c.uses-2.ensures, c.uses-3.ensures))

pub overflow_add-result-2 : goal.overflow_add-result-2
overflow_add-result-2 c =
    let args = c.args in
    omega (arith, returns c, possible-below args.coloring.now args.entries.now)

pub overflow_add-result : goal.overflow_add-result
overflow_add-result c = omega (arith, overflow_add-result-2 c)
