-- The answers for `offer_pairs`, by the invariant of Invariants.antt.
use mathlib.Core.Path.{refl, ap, ◌∙◌}
use Rattle.coloring.specs.SplineTable.{Offered}
use Rattle.coloring.proofs.spline_table.OfferLaws.{unrefused_offerable}
use Rattle.coloring.proofs.spline_colors.OrderLaws.{checked, offer-next, offers_end}
use Rattle.coloring.proofs.spline_colors.offer_pairs.Goals as goal

pub loop-edge-init : goal.loop-edge-init
loop-edge-init c =
    (record { is_sound = record { splines = refl; size = c.requires.entries; is_sound = c.requires.is_sound }; rest = refl }, (refl, refl, refl, refl))

pub try_add_edge_unchecked-requires : goal.try_add_edge_unchecked-requires
try_add_edge_unchecked-requires c =
    unrefused_offerable _ _ _ (checked _ _ _ c.requires.few c.requires.pairs _ _ c.loop-edge.invariant.0 _ c.loop-edge-test.true)

pub loop-edge-preserved : goal.loop-edge-preserved
loop-edge-preserved c =
    let offers =
    offer-next _ _ _ c.requires.few c.requires.pairs _ _ c.loop-edge.invariant.0 _ c.loop-edge-test.true _
    (ap (λ (o : Offered). o.table) c.try_add_edge_unchecked.ensures.answer) in
    let same = c.try_add_edge_unchecked.ensures.same in
    let were = c.loop-edge.invariant.1 in
    (offers, (same.0 ∙ were.0, same.1 ∙ were.1, same.2 ∙ were.2, same.3 ∙ were.3))

pub returns-clause-offered : goal.returns-clause-offered
returns-clause-offered c = offers_end _ _ _ _ _ c.loop-edge.invariant.0 c.loop-edge-test.false
