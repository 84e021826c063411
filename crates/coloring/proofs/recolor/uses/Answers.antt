-- The answers for `uses`, by the invariant of Invariants.antt.
use mathlib.Core.Path.{sym, ap, ◌∙◌}
use mathlib.Core.Bool.{◌||◌, or_assoc, or-false}
use native.Mathlib.Omega.{arith}
use Rattle.coloring.proofs.recolor.FreeColorLaws.{uses-step, uses_end}
use Rattle.coloring.proofs.recolor.uses.Goals as goal

pub loop-i-preserved : goal.loop-i-preserved
loop-i-preserved c =
    let args = c.args in
    let step = uses-step args.c args.coloring.now args.entries.now c.loop-i.i (omega arith) (omega arith) in
    or_assoc c.loop-i.found _ _ ∙ ap (λ b. c.loop-i.found || b) (sym step) ∙ c.loop-i.invariant

pub returns : goal.returns
returns c =
    let end = uses_end c.args.c c.args.coloring.now _ c.loop-i.i (omega arith) in
    sym (or-false c.loop-i.found) ∙ ap (λ b. c.loop-i.found || b) (sym end) ∙ c.loop-i.invariant
