-- The answers for `uncolor_from`, by the invariant of Invariants.antt.
use mathlib.Core.Path.{refl, sym, ap, ◌∙◌}
use native.Mathlib.Omega.{arith}
use lib.ListN.{length}
use Rattle.coloring.specs.Recolor.{Recoloring, recoloring}
use Rattle.coloring.proofs.recolor.UncolorLaws.{uncolor_step, uncolor_end, one_uncolors, still_uncoloring}
use Rattle.coloring.proofs.recolor.Walker.uncolor_from.Goals as goal

pub loop-i-init : goal.loop-i-init
loop-i-init c = (c.requires.0, refl, refl, refl)

pub uncolor_one-requires : goal.uncolor_one-requires
uncolor_one-requires c = (c.loop-i.invariant.0, omega arith)

pub loop-i-preserved : goal.loop-i-preserved
loop-i-preserved c =
    let one = c.uncolor_one in
    let inv = c.loop-i.invariant in
    let small = inv.0.color in
    let entries = c.args.entries.now in
    let so_far = recoloring c.loop-i.self in
    let lost = one_uncolors entries c.args.c small c.loop-i.i so_far in (
      still_uncoloring inv.0 lost one.ensures.after,
      ap (λ (r : Recoloring). length r.coloring) one.ensures.after ∙ lost.size ∙ inv.1,
      rw one.ensures.after (sym (uncolor_step entries c.args.c small c.loop-i.i c.args.to so_far (omega arith)) ∙ inv.2),
      one.ensures.same ∙ inv.3,
    )

pub returns-clause-after : goal.returns-clause-after
returns-clause-after c =
    let loop = c.loop-i in
    sym (uncolor_end c.args.entries.now c.args.c loop.invariant.0.color loop.i c.args.to (recoloring loop.self) (omega arith)) ∙ loop.invariant.2
