-- The answers for `shape_colors`, by the invariant of Invariants.antt.
use native.Mathlib.Omega.{arith}
use borrow.Rule.Slice.PartMut.{mid_len}
use mathlib.Core.Path.{◌≡◌, sym, ap, ◌∙◌}
use mathlib.Core.Bool.{Bool}
use mathlib.Core.List.{List, ◌++◌, map-append, append_assoc, append-nil}
use Prim.Native.Nat.{ℕ, ◌+◌, ◌-◌, ◌≤◌, ◌<◌}
use lib.ListN.{length, get_or, take}
use lib.Seq.{take_all}
use Rattle.geometry.specs.EdgeColor.{bits_of}
use Rattle.geometry.specs.declared.edge_segment.EdgeSegment.{EdgeSegment}
use Rattle.coloring.specs.declared.switching.Pen.{Pen}
use Rattle.coloring.specs.declared.settings.Strategy.{Strategy}
use Rattle.coloring.specs.Switching.{ColorsHeld}
use Rattle.coloring.specs.Corners.{Cornered, cornered}
use Rattle.coloring.specs.Splines.{spline_count}
use Rattle.coloring.specs.Values.{spline_colors, shape_colors}
use Rattle.coloring.specs.Contours.{stored_edges, contour_in}
use Rattle.std.proofs.lemmas.Slice.{take-put_mid}
use Rattle.coloring.proofs.Writing.{part-length}
use Rattle.coloring.proofs.outline.CutLaws.{next_fits, next-passed, next_part, part-next, cornered-step, cornered_end, left_step, left_end}
use Rattle.coloring.proofs.values.shape_colors.Invariants.{color_bytes, Coloring}
use Rattle.coloring.proofs.values.shape_colors.Goals as goal
use Rattle.coloring.proofs.values.shape_colors.Goals.{After-spline_count, In-loop-length}

module _ (strategy : Strategy) (lengths : List ℕ) (xs : List EdgeSegment) (flags : List Bool) (pen₀ : Pen) (n m : ℕ) (colors : List ℕ) (pen : Pen) (at to i : ℕ)
    (s : Coloring strategy lengths xs flags pen₀ n m colors pen at to i) (h : i < length lengths) where
  abbrev here : Cornered
  here = next_part lengths xs flags at i

  -- the next contour, with k splines, has its colours
  coloring-next : {k : ℕ} {colors' bytes : List ℕ} {pen' : Pen} → k ≡ spline_count here.corners
      → take (to + k) colors' ≡ take to colors ++ bytes → length colors' ≡ length colors → ColorsHeld (spline_colors strategy pen here) bytes pen'
      → Coloring strategy lengths xs flags pen₀ n m colors' pen' (at + get_or lengths i 0) (to + k) (i + 1)
  unfolding shape_colors
  coloring-next counted written same held =
      record {
        passed = next-passed _ _ _ _ s.passed h;
        long = same ∙ s.long;
        splines = omega (arith, counted, s.splines, left_step spline_count lengths flags i at h);
        bytes = s.bytes
            ∙ rw (
              cornered-step lengths xs flags i at h,
              written,
              held.colors_are,
              held.pen_is,
              map-append bits_of (spline_colors strategy pen here).colors _,
              append_assoc,
            );
      }

-- the next contour lies within the edges
room : (c : In-loop-length) → c.loop-length.at + get_or c.args.contours.lengths.now c.loop-length.length-index 0 ≤ length c.args.contours.all.flags.now
room c = next_fits _ _ _ _ c.loop-length.invariant.passed c.loop-length-test.true

module _ (c : After-spline_count) where
  abbrev s : Cornered
  s = next_part c.args.contours.lengths.now (stored_edges c.args.contours.all.edges) c.args.contours.all.flags.now c.loop-length.at c.loop-length.length-index

  -- it is the part, with its splines, and places for them
  is : contour_in c.part-contour.result ≡ s
  is = c.part-contour.ensures ∙ part-next c.args.contours.lengths.now (contour_in c.args.contours.all) c.loop-length.at c.loop-length.length-index

  counted : c.spline_count.result ≡ spline_count s.corners
  counted = c.spline_count.ensures ∙ ap (λ (contour : Cornered). spline_count contour.corners) is

  fit : c.loop-length.to + c.spline_count.result ≤ length c.loop-length.colors
  fit =
      let at = c.loop-length in
      let flags = c.args.contours.all.flags.now in
      omega (
        arith,
        counted,
        at.invariant.long,
        at.invariant.splines,
        left_step spline_count c.args.contours.lengths.now flags at.length-index at.at c.loop-length-test.true,
      )

pub part-contour-requires : goal.part-contour-requires
part-contour-requires c = (omega arith, room (goal.at.part-contour-requires c).In-loop-length)

pub overflow_add-next : goal.overflow_add-next
overflow_add-next c = omega (arith, fit c, c.loop-length.invariant.long, c.well_formed)

pub slice_bounds-spline_colors-end : goal.slice_bounds-spline_colors-end
slice_bounds-spline_colors-end c = fit c

pub loop-length-preserved : goal.loop-length-preserved
loop-length-preserved c =
    let after_spline_count = (goal.at.loop-length-preserved c).After-spline_count in
    let s = c.loop-length in
    let k = c.spline_count.result in
    let whole : s.to + k - s.to ≡ k = omega arith in
    let inside = fit after_spline_count in
    let long : length c.spline_colors-pen.new.colors ≡ k = c.spline_colors-pen.auto.colors ∙ mid_len s.to (s.to + k) s.colors inside ∙ whole in
    coloring-next _ _ _ _ _ _ _ _ _ _ _ _ s.invariant c.loop-length-test.true (counted after_spline_count)
    (take-put_mid s.to (s.to + k - s.to) s.colors c.spline_colors-pen.new.colors (s.to + k) (omega arith) (omega arith))
    (part-length s.to (s.to + k - s.to) c.spline_colors-pen.new.colors s.colors (omega arith) (omega arith))
    (rw (is after_spline_count) at c.spline_colors-pen.ensures)

pub returns : goal.returns
unfolding shape_colors
returns c =
    let a = c.args in
    let xs = stored_edges a.contours.all.edges in
    let flags = a.contours.all.flags.now in
    let lengths = a.contours.lengths.now in
    let s = c.loop-length in
    let end : length lengths ≤ s.length-index = omega arith in
    let all : take s.to s.colors ≡ s.colors =
    take_all s.to s.colors (omega (arith, s.invariant.long, s.invariant.splines, left_end spline_count lengths flags s.length-index s.at end)) in
    let first : Pen → List ℕ = λ pen. color_bytes a.strategy pen (cornered lengths xs flags) in
    sym
    (ap first (sym c.init_color-pen.ensures)
    ∙ s.invariant.bytes
    ∙ rw (cornered_end lengths xs flags s.length-index s.at end, append-nil, all))
