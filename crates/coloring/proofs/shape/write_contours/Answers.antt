-- The answers for `write_contours`, by the invariant of Invariants.antt.
use native.Mathlib.Omega.{arith}
use mathlib.Core.Path.{◌≡◌, refl, sym, ap, ◌∙◌}
use mathlib.Core.Bool.{Bool}
use mathlib.Core.List.{List, map}
use Prim.Native.Nat.{ℕ, ◌+◌, ◌-◌, ◌≤◌}
use lib.ListN.{length, get_or, take, drop, length-take, length-drop}
use Rattle.coloring.specs.Lists.{over_from}
use Rattle.coloring.specs.Places.{total}
use Rattle.coloring.specs.Corners.{Cornered}
use Rattle.coloring.specs.Layout.{result_edges}
use Rattle.coloring.specs.Splines.{spline_count}
use Rattle.coloring.specs.Outline.{cut}
use Rattle.coloring.specs.Contours.{stored_edges, contour_in}
use Rattle.coloring.specs.Sizes.{edges_bound}
use Rattle.coloring.proofs.outline.EdgeLaws.{edges-length}
use Rattle.coloring.proofs.outline.CutLaws.{none_passed, next_fits, next_part, part-next, left_step}
use Rattle.coloring.proofs.outline.StoreLaws.{same_self}
use Rattle.coloring.proofs.shape.WriteLaws.{writing-next, writing_ends}
use Rattle.coloring.proofs.shape.write_contours.Goals as goal
use Rattle.coloring.proofs.shape.write_contours.Goals.{After-spline_count, In-loop-i, Start}

module _ (c : Start) where
  abbrev lengths : List ℕ
  lengths = c.args.contours.lengths.now

  abbrev flags : List Bool
  flags = c.args.contours.all.flags.now

  as_many : length flags ≡ length (stored_edges c.args.contours.all.edges)
  as_many = c.args.contours.all.flagged ∙ sym (edges-length c.args.contours.all.edges.kinds.now c.args.contours.all.edges.points.now)

-- the next contour lies within the edges
module _ (c : In-loop-i) where
  abbrev start : Start
  start = (goal.at.In-loop-i c).Start

  abbrev n : ℕ
  n = get_or (lengths start) c.loop-i.i 0

  room : c.loop-i.at + n ≤ length (flags start)
  room = rw (as_many start) (next_fits _ _ _ _ c.loop-i.invariant.passed c.loop-i-test.true)

-- it is the part, with its edges and splines
module _ (c : After-spline_count) where
  abbrev start_of_part : Start
  start_of_part = (goal.at.After-spline_count c).Start

  abbrev in_loop : In-loop-i
  in_loop = (goal.at.After-spline_count c).In-loop-i

  abbrev here : Cornered
  here = next_part (lengths start_of_part) (stored_edges c.args.contours.all.edges) (flags start_of_part) c.loop-i.at c.loop-i.i

  is : contour_in c.part-contour.result ≡ here
  is = c.part-contour.ensures ∙ part-next (lengths start_of_part) (contour_in c.args.contours.all) c.loop-i.at c.loop-i.i

  edges-counted : c.result_edges-edges.result ≡ result_edges here.corners
  edges-counted = c.result_edges-edges.ensures ∙ ap (λ (contour : Cornered). result_edges contour.corners) is

  splines-counted : c.spline_count.result ≡ spline_count here.corners
  splines-counted = c.spline_count.ensures ∙ ap (λ (contour : Cornered). spline_count contour.corners) is

  edges-fit : c.loop-i.to + c.result_edges-edges.result ≤ total (map result_edges (cut (lengths start_of_part) (flags start_of_part)))
  edges-fit =
      let s = c.loop-i in
      omega (arith, edges-counted, s.invariant.counted, left_step result_edges (lengths start_of_part) (flags start_of_part) s.i s.at c.loop-i-test.true)

  splines-fit : c.loop-i.from + c.spline_count.result ≤ length c.args.values.now
  splines-fit =
      let s = c.loop-i in
      omega (arith, splines-counted, s.invariant.splines, left_step spline_count (lengths start_of_part) (flags start_of_part) s.i s.at c.loop-i-test.true)

  bound : c.result_edges-edges.result ≤ 768
  bound =
      let all = c.args.contours.all in
      let long : length here.corners ≤ length (flags start_of_part) = simp (length-take, length-drop) (omega arith) in
      omega (arith, edges-counted, edges_bound here.corners, long, all.flagged, all.edges.few)

pub loop-i-init : goal.loop-i-init
unfolding over_from
loop-i-init c =
    let start = (goal.at.loop-i-init c).Start in
    let all = c.args.contours.all in
    record {
      passed = none_passed _ _ (c.args.contours.whole ∙ sym (edges-length all.edges.kinds.now all.edges.points.now));
      counted = omega arith;
      splines = omega (arith, c.requires.valued);
      same = same_self c.args.out.now;
      lengths_so_far = refl;
      kinds_so_far = refl;
      points_so_far = refl;
      colors_so_far = refl;
    }

pub overflow_add-end : goal.overflow_add-end
overflow_add-end c =
    let in_loop = (goal.at.overflow_add-end c).In-loop-i in
    omega (arith, room in_loop, c.args.contours.all.flagged, c.args.contours.all.edges.few)

pub part-contour-requires : goal.part-contour-requires
part-contour-requires c = (omega arith, room (goal.at.part-contour-requires c).In-loop-i)

pub overflow_add-up_to : goal.overflow_add-up_to
overflow_add-up_to c = omega (arith, splines-fit c, c.well_formed)

pub overflow_cast-out : goal.overflow_cast-out
overflow_cast-out c = omega (arith, bound c)

pub slice_bounds-write_contour-end : goal.slice_bounds-write_contour-end
slice_bounds-write_contour-end c = splines-fit (goal.at.slice_bounds-write_contour-end c).After-spline_count

pub write_contour-requires-clause-room : goal.write_contour-requires-clause-room
write_contour-requires-clause-room c =
    let fit = edges-fit (goal.at.write_contour-requires-clause-room c).After-spline_count in
    let same = c.loop-i.invariant.same in
    let counted = c.result_edges-edges.ensures in
    record {
      edges_fit
          = (
            omega (arith, fit, counted, same.kinds_long, c.requires.room.edges_fit.0),
            omega (arith, fit, counted, same.points_long, c.requires.room.edges_fit.1),
          );
      colors_fit = omega (arith, fit, counted, same.colors_long, c.requires.room.colors_fit);
    }

pub overflow_add-to : goal.overflow_add-to
overflow_add-to c = omega (arith, edges-fit (goal.at.overflow_add-to c).After-spline_count, c.requires.room.edges_fit.0, c.well_formed)

pub loop-i-preserved : goal.loop-i-preserved
loop-i-preserved c =
    let start = (goal.at.loop-i-preserved c).Start in
    let counted = (goal.at.loop-i-preserved c).After-spline_count in
    let s = c.loop-i in
    let same = s.invariant.same in
    let k = c.spline_count.result in
    let whole : s.from + k - s.from ≡ k = omega arith in
    let room = c.requires.room in
    let w = rw (is counted) at c.write_contour.ensures in
    writing-next _ _ _ _ _ _ _ _ _ _ _ _ _ s.invariant (as_many start) c.loop-i-test.true
    (omega (arith, same.lengths_long, c.requires.lengths_room, c.loop-i-test.true)) (omega (arith, same.kinds_long, room.edges_fit.0))
    (omega (arith, same.points_long, room.edges_fit.1)) (omega (arith, same.colors_long, room.colors_fit))
    (edges-counted counted) (splines-counted counted) (ap (λ m. take m (drop s.from c.args.values.now)) whole)
    refl refl refl refl refl w

pub returns-clause-written : goal.returns-clause-written
returns-clause-written c =
    let s = c.loop-i in
    writing_ends _ _ _ _ _ _ _ _ _ _ _ _ _ s.invariant (omega arith)
