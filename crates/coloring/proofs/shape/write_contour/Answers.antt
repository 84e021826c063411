-- `write_contour` meets its contract: the edges, and then their bytes, by whether the contour is split.
use native.Mathlib.Omega.{arith}
use mathlib.Core.Path.{◌≡◌, refl, sym, ap, ◌∙◌}
use mathlib.Core.Bool.{true, false}
use mathlib.Core.List.{List, ◌++◌}
use Prim.Native.Nat.{ℕ, ◌+◌, ◌-◌, ◌*◌, ◌≤◌}
use lib.ListN.{length, take, drop}
use borrow.Rule.Slice.PartMut.{mid_len, put_mid}
use Rattle.coloring.specs.declared.outline.ResultBuffers.{ResultBuffers}
use Rattle.coloring.specs.Corners.{Cornered, corner_count}
use Rattle.coloring.specs.Layout.{splits, split_contour, layout, result_edges}
use Rattle.coloring.specs.Splines.{paint}
use Rattle.coloring.specs.Values.{middle_value}
use Rattle.coloring.specs.Outline.{StoredFrom, WrittenFrom}
use Rattle.coloring.specs.Contours.{contour_in}
use Rattle.coloring.specs.Sizes.{edges-split, edges_same, split-few, layout-split, layout_same, split-length, layout-length, layout-flagged, paint-length}
use Rattle.coloring.proofs.Lists.{get_d_any}
use Rattle.coloring.proofs.Writing.{over-part, part-length}
use Rattle.coloring.proofs.corners.FlagLaws.{first-within, corners-few}
use Rattle.coloring.proofs.splines.PaintLaws.{splines-few}
use Rattle.coloring.proofs.layout.SplitLaws.{split-painted}
use Rattle.coloring.proofs.outline.EdgeLaws.{edges-length}
use Rattle.coloring.proofs.shape.write_contour.Goals as goal
use Rattle.coloring.proofs.shape.write_contour.Goals.{Start, Then-splits, Else-splits}

-- edges are written, and then n bytes
written : {to n : ℕ} (contour : Cornered) (bytes : List ℕ) {old mid new : ResultBuffers} → StoredFrom to contour.edges old mid
    → length bytes ≡ n → to + n ≤ length old.colors.now
    → new.lengths ≡ mid.lengths → new.kinds ≡ mid.kinds → new.points ≡ mid.points → new.colors.ghost_name ≡ mid.colors.ghost_name
    → new.colors.now ≡ take to mid.colors.now ++ (bytes ++ drop n (drop to mid.colors.now))
    → WrittenFrom to contour bytes old new
written {to} {n} contour bytes {old} s long fit lengths kinds points colors-same colors =
    record {
      same = rw (lengths, kinds, points) (record {
        lengths_same = s.same.lengths_same;
        kinds_same = s.same.kinds_same;
        points_same = s.same.points_same;
        colors_same = colors-same ∙ s.same.colors_same;
        lengths_long = s.same.lengths_long;
        kinds_long = s.same.kinds_long;
        points_long = s.same.points_long;
        colors_long = rw (colors, s.colors_are) (part-length to n bytes old.colors.now long fit);
      });
      lengths_are = rw lengths s.lengths_are;
      kinds_are = rw kinds s.kinds_are;
      points_are = rw points s.points_are;
      colors_are = rw (colors, s.colors_are) (over-part to n bytes old.colors.now long);
    }

abbrev contour : Start → Cornered
contour c = contour_in c.args.contour

same_long : (c : Start) → length c.args.contour.flags.now ≡ length (contour c).edges
same_long c = c.args.contour.flagged ∙ sym (edges-length c.args.contour.edges.kinds.now c.args.contour.edges.points.now)

-- its bytes in the result
abbrev bytes : Start → List ℕ
bytes c = paint c.args.settings.division (middle_value c.args.settings.marking) c.args.values.now (layout (contour c)).corners

bytes_long : (c : Start) → length (bytes c) ≡ result_edges c.args.contour.flags.now
bytes_long c = paint-length _ _ _ (layout (contour c)).corners ∙ layout-flagged (contour c) (same_long c) ∙ layout-length (contour c) (same_long c)

-- the contour is split
module _ (c : Then-splits) where
  abbrev start : Start
  start = (goal.at.Then-splits c).Start

  split : splits c.args.contour.flags.now ≡ true
  split = sym c.splits.ensures ∙ c.if-splits.true

  few : (corner_count c.args.contour.flags.now ≡ 1) × (length c.args.contour.flags.now ≤ 2)
  few = split-few _ split

  thrice : c.result_edges.result ≡ 3 * length c.args.contour.flags.now
  thrice = c.result_edges.ensures ∙ edges-split _ split

  two : length c.args.values.now ≡ 2
  two =
      c.requires.valued
      ∙ splines-few c.args.contour.flags.now (omega (arith, corners-few c.args.contour.flags.now, few.0)) (omega (arith, few.0)) ∙ omega (arith, few.0)

-- it is not
module _ (c : Else-splits) where
  whole : splits c.args.contour.flags.now ≡ false
  whole = sym c.splits.ensures ∙ c.if-splits.false

  once : c.result_edges.result ≡ length c.args.contour.flags.now
  once = c.result_edges.ensures ∙ edges_same _ whole

pub split_edges-requires-clause-contour : goal.split_edges-requires-clause-contour
split_edges-requires-clause-contour c =
    let then_splits = (goal.at.split_edges-requires-clause-contour c).Then-splits in
    let f = few then_splits in
    let inside = first-within c.args.contour.flags.now (omega (arith, f.0)) in
    (omega (arith, f.1, c.args.contour.flagged), rw c.first_corner.ensures (omega (arith, inside, c.args.contour.flagged)))

pub split_edges-requires-clause-room : goal.split_edges-requires-clause-room
split_edges-requires-clause-room c =
    let k = thrice (goal.at.split_edges-requires-clause-room c).Then-splits in
    let flagged = c.args.contour.flagged in
    let counted = c.result_edges.ensures in
    (omega (arith, k, flagged, counted, c.requires.room.edges_fit.0), omega (arith, k, flagged, counted, c.requires.room.edges_fit.1))

pub bounds-values-0 : goal.bounds-values-0
bounds-values-0 c = omega (arith, two (goal.at.bounds-values-0 c).Then-splits)

pub bounds-values-1 : goal.bounds-values-1
bounds-values-1 c = omega (arith, two (goal.at.bounds-values-1 c).Then-splits)

pub paint_runs-requires : goal.paint_runs-requires
paint_runs-requires c =
    let then_splits = (goal.at.paint_runs-requires c).Then-splits in
    let to = c.args.to in
    let k = c.result_edges.result in
    let fit = c.requires.room.colors_fit in
    let long = mid_len to (to + k) c.split_edges.new.out.colors.now (omega (arith, fit, c.result_edges.ensures, c.split_edges.ensures.same.colors_long)) in
    let f = few then_splits in
    let some = corners-few c.args.contour.flags.now in
    (omega (arith, long, thrice then_splits, f.0, some), omega (arith, long, thrice then_splits, f.1))

pub copy_edges-requires : goal.copy_edges-requires
copy_edges-requires c =
    let k = once (goal.at.copy_edges-requires c).Else-splits in
    let flagged = c.args.contour.flagged in
    let counted = c.result_edges.ensures in
    (omega (arith, k, flagged, counted, c.requires.room.edges_fit.0), omega (arith, k, flagged, counted, c.requires.room.edges_fit.1))

pub paint-requires : goal.paint-requires
paint-requires c =
    let else_splits = (goal.at.paint-requires c).Else-splits in
    let to = c.args.to in
    let k = c.result_edges.result in
    let fit = c.requires.room.colors_fit in
    let long = mid_len to (to + k) c.copy_edges.new.out.colors.now (omega (arith, fit, c.result_edges.ensures, c.copy_edges.ensures.same.colors_long)) in
    record {
      few = omega (arith, c.args.contour.flagged, c.args.contour.edges.few);
      valued = c.requires.valued;
      room = omega (arith, long, once else_splits);
    }

pub returns-then-splits : goal.returns-then-splits
unfolding split_contour
returns-then-splits c =
    let start = (goal.at.returns-then-splits c).Start in
    let then_splits = (goal.at.returns-then-splits c).Then-splits in
    let a = c.args in
    let k = c.result_edges.result in
    let values = a.values.now in
    let here = contour start in
    let layout-is = layout-split here (split then_splits) in
    let n : a.to + k - a.to ≡ k = omega arith in
    let fit = c.requires.room.colors_fit in
    let long = mid_len a.to (a.to + k) c.split_edges.new.out.colors.now (omega (arith, fit, c.result_edges.ensures, c.split_edges.ensures.same.colors_long)) in
    let edges : length (split_contour here).edges ≡ k =
    split-length here ∙ omega (arith, same_long start, thrice then_splits) in
    let is : c.paint_runs.new.out ≡ bytes start =
    rw layout-is (
    c.paint_runs.ensures
    ∙ rw (
      long,
      n,
      c.middle_value-middle.ensures,
      split-painted here (same_long start) (split then_splits) a.settings.division (middle_value a.settings.marking) values,
      edges,
      get_d_any values 0 (middle_value a.settings.marking) 0 (omega (arith, two then_splits)),
      get_d_any values 1 (middle_value a.settings.marking) 0 (omega (arith, two then_splits)),
    ) refl
    ) in
    let stored : StoredFrom a.to (layout here).edges a.out.now c.split_edges.new.out = rw layout-is (rw c.first_corner.ensures at c.split_edges.ensures) in
    written (layout here) (bytes start) stored
    (bytes_long start ∙ omega (arith, c.result_edges.ensures)) (omega (arith, fit, c.result_edges.ensures)) refl refl refl refl
    (ap (λ (bytes : List ℕ). put_mid a.to (a.to + k - a.to) c.split_edges.new.out.colors.now bytes) is)

pub returns-else-splits : goal.returns-else-splits
returns-else-splits c =
    let start = (goal.at.returns-else-splits c).Start in
    let else_splits = (goal.at.returns-else-splits c).Else-splits in
    let a = c.args in
    let k = c.result_edges.result in
    let here = contour start in
    let layout-is = layout_same here (whole else_splits) in
    let fit = c.requires.room.colors_fit in
    let is : c.paint.new.out ≡ bytes start = rw (layout-is, ← c.middle_value-middle.ensures) c.paint.ensures in
    let stored : StoredFrom a.to (layout here).edges a.out.now c.copy_edges.new.out = rw layout-is c.copy_edges.ensures in
    written (layout here) (bytes start) stored
    (bytes_long start ∙ omega (arith, c.result_edges.ensures)) (omega (arith, fit, c.result_edges.ensures)) refl refl refl refl
    (ap (λ (bytes : List ℕ). put_mid a.to (a.to + k - a.to) c.copy_edges.new.out.colors.now bytes) is)
