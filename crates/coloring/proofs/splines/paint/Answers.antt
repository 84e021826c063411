-- `paint` meets its contract: nothing for an empty contour, three runs for one corner, else the splines spread.
use native.Mathlib.Omega.{arith}
use mathlib.Core.Path.{◌≡◌, sym, ap, ◌∙◌}
use mathlib.Core.Bool.{false}
use Prim.Native.Nat.{suc, ◌-◌, ◌<◌}
use lib.Dec.{eqb}
use lib.ListN.{length}
use borrow.Author.Tests.{eq-eqb, ne_eqb, eqb-true, eqb-false}
use Rattle.coloring.proofs.Lists.{get_d_any}
use Rattle.coloring.specs.Corners.{corner_count}
use Rattle.coloring.specs.Sizes.{paint-one, paint-spread, paint-length}
use Rattle.coloring.proofs.Lists.{length-zero}
use Rattle.coloring.proofs.corners.FlagLaws.{first-within}
use Rattle.coloring.proofs.splines.PaintLaws.{splines-few, splines_positive}
use Rattle.coloring.proofs.splines.paint.Goals as goal
use Rattle.coloring.proofs.splines.paint.Goals.{After-count_corners, Else-count_corners-eq1, Then-count_corners-eq1}

-- there are edges, and their corners are counted
module _ (c : After-count_corners) where
  some : 0 < length c.args.flags.now
  some = omega (arith, eqb-false _ 0 (sym c.is_empty.ensures ∙ c.if-is_empty.false))

one : (c : Then-count_corners-eq1) → corner_count c.args.flags.now ≡ 1
one c = sym c.count_corners.ensures ∙ c.if-count_corners-eq1.true

two : (c : Then-count_corners-eq1) → length c.args.values.now ≡ 2
two c =
    let after_count_corners = (goal.at.Then-count_corners-eq1 c).After-count_corners in
    c.requires.valued ∙ splines-few _ (some after_count_corners) (omega (arith, one c)) ∙ ap (λ n. suc n) (one c)

not_one : (c : Else-count_corners-eq1) → eqb (corner_count c.args.flags.now) 1 ≡ false
not_one c = rw (← c.count_corners.ensures) (ne_eqb _ _ c.if-count_corners-eq1.false)

values_some : (c : Else-count_corners-eq1) → 0 < length c.args.values.now
values_some c = rw c.requires.valued (splines_positive _ (some (goal.at.Else-count_corners-eq1 c).After-count_corners))

pub returns-then-is_empty : goal.returns-then-is_empty
returns-then-is_empty c =
    let none = eqb-true _ 0 (sym c.is_empty.ensures ∙ c.if-is_empty.true) in
    length-zero c.args.out.now (c.requires.room ∙ none) ∙ sym (length-zero _ (paint-length _ _ _ c.args.flags.now ∙ none))

pub bounds-values-0 : goal.bounds-values-0
bounds-values-0 c = omega (arith, two (goal.at.bounds-values-0 c).Then-count_corners-eq1)

pub bounds-values-1 : goal.bounds-values-1
bounds-values-1 c = omega (arith, two (goal.at.bounds-values-1 c).Then-count_corners-eq1)

pub paint_runs-requires : goal.paint_runs-requires
paint_runs-requires c =
    let then_count_corners_eq1 = (goal.at.paint_runs-requires c).Then-count_corners-eq1 in
    let pre = c.requires in
    (rw (c.first_corner.ensures, pre.room) (first-within _ (omega (arith, one then_count_corners_eq1))), rw pre.room pre.few)

pub returns-then-count_corners-eq1 : goal.returns-then-count_corners-eq1
returns-then-count_corners-eq1 c =
    let then_count_corners_eq1 = (goal.at.returns-then-count_corners-eq1 c).Then-count_corners-eq1 in
    let values = c.args.values.now in
    let h = two then_count_corners_eq1 in
    rw (
      paint-one _ _ _ _ (eq-eqb _ _ (one then_count_corners_eq1)),
      get_d_any values 0 c.args.middle 0 (omega arith),
      get_d_any values 1 c.args.middle 0 (omega arith),
    )
    (c.paint_runs.ensures ∙ rw (c.first_corner.ensures, c.requires.room))

pub spread-requires : goal.spread-requires
spread-requires c = (values_some (goal.at.spread-requires c).Else-count_corners-eq1, c.requires.room)

pub returns : goal.returns
returns c =
    let else_count_corners_eq1 = (goal.at.returns c).Else-count_corners-eq1 in
    let values = c.args.values.now in
    rw (
      paint-spread _ _ _ _ (not_one else_count_corners_eq1),
      get_d_any values (length values - 1) c.args.middle 0
          (omega (arith, values_some else_count_corners_eq1)),
    )
    c.spread.ensures
