-- The answers for `count_up`, by the invariant of Invariants.antt.
use mathlib.Core.Path.{refl, sym, ap, ◌∙◌}
use native.Mathlib.Nat.{zero-add}
use native.Mathlib.Omega.{arith}
use native.Mathlib.Numerals.{add-one}
use lib.Seq.{take-suc-set, take_all}
use Rattle.coloring.specs.Lists.{range}
use Rattle.coloring.proofs.Lists.{range_snoc}
use Rattle.coloring.proofs.values.count_up.Goals as goal

pub loop-i-init : goal.loop-i-init
unfolding range
loop-i-init c = refl

pub loop-i-preserved : goal.loop-i-preserved
loop-i-preserved c =
    let at = c.loop-i in
    let next = range_snoc 0 at.i in
    rw add-one (take-suc-set at.numbers at.i at.i (omega arith) ∙ rw at.invariant (sym (rw zero-add at next)))

pub returns : goal.returns
returns c =
    let at = c.loop-i in
    sym (take_all at.i at.numbers (omega arith)) ∙ at.invariant ∙ ap (range 0) (omega arith)
