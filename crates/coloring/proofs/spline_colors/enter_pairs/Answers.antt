-- The answers for `enter_pairs`, by the invariant of Invariants.antt.
use mathlib.Core.Path.{refl, sym, ap, ◌∙◌}
use lib.ListN.{length, length-set}
use Rattle.coloring.specs.SplineColors.{enter_pairs}
use Rattle.coloring.proofs.spline_colors.OrderLaws.{entries_inside, enter_next, enter_end}
use Rattle.coloring.proofs.spline_colors.enter_pairs.Goals as goal

pub loop-edge-init : goal.loop-edge-init
loop-edge-init c = (refl, refl, refl, (refl, refl, refl, refl))

pub enter_pair-requires : goal.enter_pair-requires
enter_pair-requires c =
    let loop = c.loop-edge in
    let colors = loop.invariant.2 in
    rw colors
    (entries_inside _ c.args.edges.now _ _ c.loop-edge-test.true c.requires.pairs _ (loop.invariant.1 ∙ c.requires.size))

pub loop-edge-preserved : goal.loop-edge-preserved
loop-edge-preserved c =
    let loop = c.loop-edge in
    let one = c.enter_pair.ensures in
    let colors = loop.invariant.2 in
    let same = loop.invariant.3 in
    let entered = rw colors at one.entered in (
      ap (enter_pairs _ _) entered ∙ enter_next _ c.args.edges.now _ _ c.loop-edge-test.true _ ∙ loop.invariant.0,
      ap length one.entered ∙ length-set _ _ _ ∙ length-set _ _ _ ∙ loop.invariant.1,
      one.colors ∙ colors,
      (one.same.0 ∙ same.0, one.same.1 ∙ same.1, one.same.2 ∙ same.2, one.same.3 ∙ same.3),
    )

pub returns-clause-entered : goal.returns-clause-entered
returns-clause-entered c =
    sym (enter_end _ c.args.edges.now _ _ c.loop-edge-test.false) ∙ c.loop-edge.invariant.0
