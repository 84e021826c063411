-- The result of all contours, written contour by contour: i of them stand before the edge `to`.
use mathlib.Core.Path.{◌≡◌, refl, sym, ap, ◌∙◌}
use mathlib.Core.Bool.{Bool}
use mathlib.Core.List.{List, ◌∷◌, ◌++◌, map, map-append, flatten}
use Prim.Native.Nat.{ℕ, ◌+◌, ◌*◌, ◌≤◌, ◌<◌}
use native.Mathlib.Omega.{arith}
use lib.ListN.{length, get_or, take, drop, set, length-map, length-set, length-drop}
use lib.Seq.{length-take-le, drop-drop}
use Rattle.geometry.specs.declared.edge_segment.EdgeSegment.{EdgeSegment}
use Rattle.coloring.specs.declared.outline.ResultBuffers.{ResultBuffers}
use Rattle.coloring.specs.declared.settings.Division.{Division}
use Rattle.coloring.specs.Lists.{over, over_from}
use Rattle.coloring.specs.Corners.{Cornered, cornered}
use Rattle.coloring.specs.Layout.{layout, result_edges}
use Rattle.coloring.specs.Splines.{spline_count, paint, paint_contours}
use Rattle.coloring.specs.Outline.{Result, kind_stored, places_stored, encode, result_in, over_result, SameBuffers, WrittenFrom}
use Rattle.coloring.specs.Shape.{painted}
use Rattle.coloring.specs.Sizes.{layout-length, layout-flagged, paint-length, points-length}
use Rattle.coloring.proofs.Writing.{over_nothing, over-more, over-next}
use Rattle.coloring.proofs.outline.CutLaws.{ContoursPassed, next_fits, next-passed, next_part, cornered-step, cornered_end, left, left_step}
use Rattle.coloring.proofs.outline.StoreLaws.{points-append, same_again}
use Rattle.coloring.proofs.layout.SplitLaws.{splines_by}

module _ (division : Division) (middle : ℕ) where
  -- what contours come to, with the values of their splines
  abbrev result_of : List ℕ → List Cornered → Result
  result_of values found = painted division middle values (map layout found)

  result-next : (values : List ℕ) (contour : Cornered) (rest : List Cornered)
      → let laid = layout contour in
      let splines = spline_count laid.corners in
      let all = result_of values (contour ∷ rest) in
      let after = result_of (drop splines values) rest in
      (all.lengths ≡ length laid.edges ∷ after.lengths)
      × (all.kinds ≡ map kind_stored laid.edges ++ after.kinds)
      × (all.points ≡ flatten (map places_stored laid.edges) ++ after.points)
      × (all.colors ≡ paint division middle (take splines values) laid.corners ++ after.colors)
  unfolding painted encode flatten paint_contours
  result-next values contour rest = (refl, map-append kind_stored (layout contour).edges _, points-append (layout contour).edges _, refl)

  module _ (values lengths : List ℕ) (xs : List EdgeSegment) (flags : List Bool) where
    -- what contours from i on come to, the first of them at edge `at`, with the values from place `from` on
    abbrev to_write : ℕ → ℕ → ℕ → Result
    to_write at from i = result_of (drop from values) (cornered (drop i lengths) (drop at xs) (drop at flags))

    -- buffers on the way to hold the whole, over what stood there
    pub record Writing (edges : ℕ) (old now : ResultBuffers) (at from to i : ℕ) : Type 0 where
      pub passed : ContoursPassed lengths (length xs) at i
      pub counted : to + left result_edges lengths flags i at ≡ edges
      pub splines : from + left spline_count lengths flags i at ≡ length values
      pub same : SameBuffers old now
      pub lengths_so_far : over (to_write 0 0 0).lengths old.lengths.now ≡ over_from i (to_write at from i).lengths now.lengths.now
      pub kinds_so_far : over (to_write 0 0 0).kinds old.kinds.now ≡ over_from to (to_write at from i).kinds now.kinds.now
      pub points_so_far : over (to_write 0 0 0).points old.points.now ≡ over_from (8 * to) (to_write at from i).points now.points.now
      pub colors_so_far : over (to_write 0 0 0).colors old.colors.now ≡ over_from to (to_write at from i).colors now.colors.now

    module _ (edges : ℕ) (old now : ResultBuffers) (at from to i : ℕ) (s : Writing edges old now at from to i) where
      abbrev here : Cornered
      here = next_part lengths xs flags at i

      -- the contour at i is written: e edges and m splines are what its flags count to
      pub writing-next : {e m : ℕ} {part : List ℕ} {counted written : ResultBuffers}
          → length flags ≡ length xs → i < length lengths → i < length now.lengths.now
          → edges ≤ length now.kinds.now → 8 * edges ≤ length now.points.now → edges ≤ length now.colors.now
          → e ≡ result_edges here.corners → m ≡ spline_count here.corners → part ≡ take m (drop from values)
          → counted.lengths.now ≡ set now.lengths.now i e → counted.lengths.ghost_name ≡ now.lengths.ghost_name
          → counted.kinds ≡ now.kinds → counted.points ≡ now.points → counted.colors ≡ now.colors
          → WrittenFrom to (layout here) (paint division middle part (layout here).corners) counted written
          → Writing edges old written (at + get_or lengths i 0) (from + m) (to + e) (i + 1)
      writing-next {e} {m} {part} {counted} {written} l h r kinds_fit points_fit colors_fit
          e-is m-is part-is set-is same-lengths kinds-is points-is colors-is w =
          let same : SameBuffers now counted = rw (kinds-is, points-is, colors-is) (record {
            lengths_same = same-lengths;
            kinds_same = refl;
            points_same = refl;
            colors_same = refl;
            lengths_long = ap length set-is ∙ length-set now.lengths.now i e;
            kinds_long = refl;
            points_long = refl;
            colors_long = refl;
          }) in
          let n = get_or lengths i 0 in
          let laid = layout here in
          let room = next_fits lengths (length xs) at i s.passed h in
          let flagged : length here.corners ≡ length here.edges =
          length-take-le n (drop at flags) (omega (arith, length-drop at flags)) ∙ sym (length-take-le n (drop at xs) (omega (arith, length-drop at xs))) in
          let long : length laid.edges ≡ e = layout-length here flagged ∙ sym e-is in
          let m-laid : spline_count laid.corners ≡ m = splines_by here flagged _ refl ∙ sym m-is in
          let bytes = paint division middle part laid.corners in
          let bytes_long : length bytes ≡ e = paint-length division middle part laid.corners ∙ layout-flagged here flagged ∙ long in
          let step = cornered-step lengths xs flags i at h in
          let next = result-next (drop from values) here (cornered (drop (i + 1) lengths) (drop (at + n) xs) (drop (at + n) flags)) in
          let edges_left = left_step result_edges lengths flags i at h in
          let splines_left = left_step spline_count lengths flags i at h in
          let eight : 8 * to + 8 * e ≡ 8 * (to + e) = omega arith in
          let fit : to + e ≤ edges = omega (arith, s.counted, edges_left, e-is) in
          let values-next = drop-drop m from values in
          record {
            passed = next-passed lengths (length xs) at i s.passed h;
            counted = omega (arith, s.counted, edges_left, e-is);
            splines = omega (arith, s.splines, splines_left, m-is);
            same = same_again s.same (same_again same w.same);
            lengths_so_far = s.lengths_so_far ∙ rw (step, next.0, long, m-laid, values-next, w.lengths_are, set-is) (over-next i e _ now.lengths.now r);
            kinds_so_far =
                s.kinds_so_far
                ∙ rw (step, next.1, m-laid, values-next, w.kinds_are, kinds-is)
                (over-more to e (map kind_stored laid.edges) _ now.kinds.now (length-map laid.edges kind_stored ∙ long) (omega arith));
            points_so_far =
                s.points_so_far
                ∙ rw (step, next.2, m-laid, values-next, w.points_are, points-is, ← eight)
                (over-more (8 * to) (8 * e) (flatten (map places_stored laid.edges)) _ now.points.now
                (points-length laid.edges ∙ ap (λ k. 8 * k) long) (omega arith));
            colors_so_far =
                s.colors_so_far
                ∙ rw (step, next.3, m-laid, values-next, ← part-is, w.colors_are, colors-is)
                (over-more to e bytes _ now.colors.now bytes_long (omega arith));
          }

      pub writing_ends : length lengths ≤ i → result_in now ≡ over_result (to_write 0 0 0) (result_in old)
      unfolding painted encode flatten paint_contours
      writing_ends h =
          let none = cornered_end lengths xs flags i at h in
          let lengths-are : now.lengths.now ≡ over (to_write 0 0 0).lengths old.lengths.now =
          sym (s.lengths_so_far ∙ rw none (over_nothing i now.lengths.now)) in
          let kinds_are : now.kinds.now ≡ over (to_write 0 0 0).kinds old.kinds.now = sym (s.kinds_so_far ∙ rw none (over_nothing to now.kinds.now)) in
          let points_are : now.points.now ≡ over (to_write 0 0 0).points old.points.now =
          sym (s.points_so_far ∙ rw none (over_nothing (8 * to) now.points.now)) in
          let colors_are : now.colors.now ≡ over (to_write 0 0 0).colors old.colors.now = sym (s.colors_so_far ∙ rw none (over_nothing to now.colors.now)) in
          rw (lengths-are, kinds_are, points_are, colors_are)
