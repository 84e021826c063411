-- The answers for `count_shape`, by the invariant of Invariants.antt.
use native.Mathlib.Omega.{arith}
use mathlib.Core.Path.{◌≡◌, refl, sym, ◌∙◌}
use mathlib.Core.Bool.{Bool}
use mathlib.Core.List.{List, map}
use Prim.Native.Nat.{ℕ, ◌+◌, ◌-◌, ◌≤◌}
use lib.ListN.{length, get_or, take, drop}
use Rattle.coloring.specs.Places.{total}
use Rattle.coloring.specs.Layout.{result_edges}
use Rattle.coloring.specs.Splines.{spline_count}
use Rattle.coloring.specs.Outline.{cut}
use Rattle.coloring.specs.Limits.{max_result_edges, max_shape_splines}
use Rattle.coloring.specs.Sizes.{edges_most}
use Rattle.coloring.proofs.outline.CutLaws.{none_passed, next_fits, next-passed, left, left_step, left_end, cut-sizes, cut-length}
use Rattle.coloring.proofs.splines.PaintLaws.{splines_most}
use Rattle.coloring.proofs.shape.count_shape.Goals as goal
use Rattle.coloring.proofs.shape.count_shape.Goals.{In-loop-length, Start}

-- all contours have few
module _ (c : Start) where
  abbrev lengths : List ℕ
  lengths = c.args.contours.lengths.now

  abbrev flags : List Bool
  flags = c.args.contours.all.flags.now

  whole : total lengths ≡ length flags
  whole = c.args.contours.whole ∙ sym c.args.contours.all.flagged

  few-edges : total (map result_edges (cut lengths flags)) ≤ max_result_edges
  few-edges =
      edges_most (cut lengths flags) (rw cut-length c.args.contours.contours_few)
      (rw (cut-sizes lengths flags (omega (arith, whole))) (omega (arith, whole, c.args.contours.all.flagged, c.args.contours.all.edges.few)))

  few-splines : total (map spline_count (cut lengths flags)) ≤ max_shape_splines
  few-splines =
      let most = rw (cut-sizes lengths flags (omega (arith, whole)), cut-length) at (splines_most (cut lengths flags)) in
      omega (arith, most, whole, c.args.contours.all.flagged, c.args.contours.all.edges.few, c.args.contours.contours_few)

-- the next contour
module _ (c : In-loop-length) where
  abbrev start : Start
  start = (goal.at.In-loop-length c).Start

  abbrev n : ℕ
  n = get_or (lengths start) c.loop-length.length-index 0

  room : c.loop-length.at + n ≤ length (flags start)
  room = next_fits _ _ _ _ c.loop-length.invariant.0 c.loop-length-test.true

  -- it is counted
  step : (count : List Bool → ℕ)
      → let s = c.loop-length in
      left count (lengths start) (flags start) s.length-index s.at
      ≡ count (take (s.at + n - s.at) (drop s.at (flags start)))
      + left count (lengths start) (flags start) (s.length-index + 1) (s.at + n)
  step count =
      let s = c.loop-length in
      let whole : s.at + n - s.at ≡ n = omega arith in
      rw whole (left_step count (lengths start) (flags start) s.length-index s.at c.loop-length-test.true)

pub loop-length-init : goal.loop-length-init
loop-length-init c = (none_passed _ _ (whole (goal.at.loop-length-init c).Start), omega arith, omega arith)

pub slice_bounds-flags-end : goal.slice_bounds-flags-end
slice_bounds-flags-end c = room (goal.at.slice_bounds-flags-end c).In-loop-length

pub overflow_add-edges : goal.overflow_add-edges
overflow_add-edges c =
    let in_loop = (goal.at.overflow_add-edges c).In-loop-length in
    omega (arith, c.result_edges-edges.ensures, step in_loop result_edges, c.loop-length.invariant.1, few-edges (start in_loop))

pub overflow_add-splines : goal.overflow_add-splines
overflow_add-splines c =
    let in_loop = (goal.at.overflow_add-splines c).In-loop-length in
    omega (arith, c.spline_count-splines.ensures, step in_loop spline_count, c.loop-length.invariant.2, few-splines (start in_loop))

pub loop-length-preserved : goal.loop-length-preserved
loop-length-preserved c =
    let in_loop = (goal.at.loop-length-preserved c).In-loop-length in
    let s = c.loop-length in (
      next-passed _ _ _ _ s.invariant.0 c.loop-length-test.true,
      omega (arith, c.result_edges-edges.ensures, step in_loop result_edges, s.invariant.1),
      omega (arith, c.spline_count-splines.ensures, step in_loop spline_count, s.invariant.2),
    )

pub returns : goal.returns
returns c =
    let start = (goal.at.returns c).Start in
    let s = c.loop-length in
    let end : length (lengths start) ≤ s.length-index = omega arith in
    let edges = left_end result_edges (lengths start) (flags start) s.length-index s.at end in
    let splines = left_end spline_count (lengths start) (flags start) s.length-index s.at end in (
      record {
        contours_are = refl;
        edges_are = omega (arith, s.invariant.1);
        splines_are = omega (arith, s.invariant.2);
        edges_few = omega (arith, s.invariant.1, few-edges start);
        splines-few = omega (arith, s.invariant.2, few-splines start);
      },
      refl,
    )
