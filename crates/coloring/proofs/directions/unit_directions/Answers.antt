-- The answers for `unit_directions`, by the invariants of Invariants.antt.
use mathlib.Core.Path.{◌≡◌, refl, ap, ◌∙◌}
use mathlib.Core.List.{List}
use Prim.Native.Nat.{ℕ, ◌+◌, ◌≤◌, ◌<◌}
use native.Mathlib.Omega.{arith}
use lib.ListN.{length, get_or}
use Rattle.geometry.specs.EdgeSegment.{unit_directions}
use Rattle.geometry.specs.declared.edge_segment.EdgeSegment.{EdgeSegment}
use Rattle.coloring.specs.Corners.{stand_in_marks, marks_of}
use Rattle.coloring.specs.Outline.{any_edge}
use Rattle.coloring.specs.Contours.{stored_edges}
use Rattle.coloring.specs.Directions.{direction_places, encode_directions}
use Rattle.coloring.proofs.outline.CheckLaws.{total_end}
use Rattle.coloring.proofs.outline.EdgeLaws.{edges-length}
use Rattle.coloring.proofs.outline.CutLaws.{none_passed, next_fits, next-passed}
use Rattle.coloring.proofs.directions.DirectionLaws.{directing_none, directing_next, directing_all}
use Rattle.coloring.proofs.directions.unit_directions.Goals as goal
use Rattle.coloring.proofs.directions.unit_directions.Goals.{In-loop-i, In-loop-length, Start}

module _ (c : Start) where
  abbrev edges : List EdgeSegment
  edges = stored_edges c.args.edges

  as_many : length edges ≡ length c.args.edges.kinds.now
  as_many = edges-length c.args.edges.kinds.now c.args.edges.points.now

-- the next contour lies within the edges
module _ (c : In-loop-length) where
  abbrev n : ℕ
  n = get_or c.args.lengths.now c.loop-length.length-index 0

  room : c.loop-length.at + n ≤ length c.args.edges.kinds.now
  room = next_fits _ _ _ _ c.loop-length.invariant.0 c.loop-length-test.true

-- the next edge is one of it
module _ (c : In-loop-i) where
  inside : c.loop-i.i < length c.args.edges.kinds.now
  inside = omega (arith, room (goal.at.In-loop-i c).In-loop-length)

pub loop-length-init : goal.loop-length-init
loop-length-init c =
    let start = (goal.at.loop-length-init c).Start in (
      none_passed _ _ c.requires.sizes,
      record {
        directed = directing_none 4 direction_places (λ d. refl) (edges start) c.args.out.now (omega (arith, c.requires.out_len.0, as_many start));
        marked = directing_none 2 stand_in_marks (λ d. refl) (edges start) c.args.marks.now (omega (arith, c.requires.out_len.1, as_many start));
      },
    )

pub overflow_add-end : goal.overflow_add-end
overflow_add-end c = omega (arith, room (goal.at.overflow_add-end c).In-loop-length, c.args.edges.few)

pub loop-i-init : goal.loop-i-init
loop-i-init c = c.loop-length.invariant.1

pub at-requires : goal.at-requires
at-requires c = inside (goal.at.at-requires c).In-loop-i

pub write_from-requires : goal.write_from-requires
write_from-requires c =
    let here = inside (goal.at.write_from-requires c).In-loop-i in
    omega (arith, here, c.loop-i.invariant.directed.room, as_many (goal.at.write_from-requires c).Start)

pub write_from-requires-in-loop-i : goal.write_from-requires-in-loop-i
write_from-requires-in-loop-i c =
    let here = inside (goal.at.write_from-requires-in-loop-i c).In-loop-i in
    omega (arith, here, c.loop-i.invariant.marked.room, as_many (goal.at.write_from-requires-in-loop-i c).Start)

pub loop-i-preserved : goal.loop-i-preserved
loop-i-preserved c =
    let start = (goal.at.loop-i-preserved c).Start in
    let s = c.loop-i in
    let all = edges start in
    let e : c.unit_directions-d.result ≡ unit_directions (get_or all s.i any_edge) = c.unit_directions-d.ensures ∙ ap unit_directions c.at.ensures in
    let h : s.i < length all = omega (arith, inside (goal.at.loop-i-preserved c).In-loop-i, as_many start) in
    record {
      directed = rw (c.write_from.ensures, c.direction_places.ensures, e)
          (directing_next 4 direction_places (λ d. refl) all s.out s.i s.invariant.directed any_edge h);
      marked = rw (c.write_from-in-loop-i.ensures, c.stand_in_marks.ensures, e)
          (directing_next 2 stand_in_marks (λ d. refl) all s.marks s.i s.invariant.marked any_edge h);
    }

pub loop-length-preserved : goal.loop-length-preserved
loop-length-preserved c =
    let s = c.loop-length in
    let done : c.loop-i.i ≡ s.at + n (goal.at.loop-length-preserved c).In-loop-length = omega arith in
    (next-passed _ _ _ _ s.invariant.0 c.loop-length-test.true, rw done at c.loop-i.invariant)

pub returns : goal.returns
unfolding encode_directions marks_of
returns c =
    let start = (goal.at.returns c).Start in
    let s = c.loop-length in
    let done : length (edges start) ≤ s.at = omega (arith, s.invariant.0.left, total_end c.args.lengths.now s.length-index (omega arith), as_many start) in
    record {
      out_after = directing_all 4 direction_places (λ d. refl) (edges start) s.out s.at s.invariant.1.directed done;
      marks_after = directing_all 2 stand_in_marks (λ d. refl) (edges start) s.marks s.at s.invariant.1.marked done;
    }
