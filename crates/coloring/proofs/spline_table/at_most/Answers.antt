-- The answers for `at_most`, by the invariant of Invariants.antt.
use mathlib.Core.Path.{◌≡◌, sym, ap, ◌∙◌}
use mathlib.Core.Bool.{◌&&◌}
use native.Mathlib.Omega.{arith}
use lib.Dec.{leb}
use lib.ListN.{length, get_or}
use Rattle.coloring.proofs.spline_table.TableLaws.{all_none, all_more}
use Rattle.coloring.proofs.spline_table.at_most.Goals as goal

pub loop-value-init : goal.loop-value-init
loop-value-init c = sym (all_none _)

pub loop-value-preserved : goal.loop-value-preserved
loop-value-preserved c =
    let args = c.args in
    ap (λ b. b && leb (get_or args.values.now c.loop-value.value-index 0) args.most) c.loop-value.invariant ∙ sym (all_more c.loop-value.value-index _)

pub returns : goal.returns
returns c =
    let e : c.loop-value.value-index ≡ length c.args.values.now = omega arith in
    rw e at c.loop-value.invariant
