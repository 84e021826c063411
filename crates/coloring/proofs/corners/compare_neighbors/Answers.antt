-- The answers for `compare_neighbors`, by the invariant of Invariants.antt.
use native.Mathlib.Omega.{arith}
use borrow.Rule.Slice.PartMut.{mid_len}
use mathlib.Core.Path.{◌≡◌, sym, ◌∙◌}
use mathlib.Core.List.{List}
use Prim.Native.Nat.{ℕ, ◌+◌, ◌-◌, ◌≤◌}
use lib.ListN.{length, get_or, take, drop, length-drop}
use lib.Seq.{length-take-le}
use Rattle.coloring.specs.declared.directions.Ends.{Ends}
use Rattle.coloring.specs.Corners.{flags_between}
use Rattle.coloring.specs.Directions.{decode_ends}
use Rattle.coloring.specs.Sizes.{between-length}
use Rattle.coloring.proofs.Writing.{over-all, over-part, over-more, over_nothing}
use Rattle.coloring.proofs.outline.CutLaws.{none_passed, next_fits, next-passed}
use Rattle.coloring.proofs.directions.DirectionLaws.{decode-length, decode-part}
use Rattle.coloring.proofs.corners.FoundLaws.{all-length, all-step, all_end}
use Rattle.coloring.proofs.corners.compare_neighbors.Goals as goal
use Rattle.coloring.proofs.corners.compare_neighbors.Goals.{In-loop-length, Start}

-- the directions of all edges
module _ (c : Start) where
  abbrev edges : ℕ
  edges = length c.args.flags.now

  abbrev all : List Ends
  all = decode_ends edges c.args.directions.now

  as_many : length all ≡ edges
  as_many = decode-length edges c.args.directions.now

-- the next contour lies within the edges
module _ (c : In-loop-length) where
  abbrev start : Start
  start = (goal.at.In-loop-length c).Start

  abbrev n : ℕ
  n = get_or c.args.lengths.now c.loop-length.length-index 0

  room : c.loop-length.at + n ≤ edges start
  room = next_fits _ _ _ _ c.loop-length.invariant.0 c.loop-length-test.true

pub loop-length-init : goal.loop-length-init
loop-length-init c =
    let start = (goal.at.loop-length-init c).Start in
    let a = c.args in
    let long = all-length a.threshold a.lengths.now (all start) (omega (arith, c.requires.2, as_many start)) in
    (none_passed _ _ c.requires.2, sym (over-all _ a.flags.now (sym (long ∙ c.requires.2))))

pub overflow_add-end : goal.overflow_add-end
overflow_add-end c = omega (arith, room (goal.at.overflow_add-end c).In-loop-length, c.requires.1)

pub slice_bounds-identify_corners-end : goal.slice_bounds-identify_corners-end
slice_bounds-identify_corners-end c = omega (arith, room (goal.at.slice_bounds-identify_corners-end c).In-loop-length, c.requires.0)

pub loop-length-preserved : goal.loop-length-preserved
loop-length-preserved c =
    let in_loop = (goal.at.loop-length-preserved c).In-loop-length in
    let start = start in_loop in
    let s = c.loop-length in
    let a = c.args in
    let n = n in_loop in
    let inside = room in_loop in
    let m : s.at + n - s.at ≡ n = omega arith in
    let contour = take n (drop s.at (all start)) in
    let flags = flags_between a.threshold contour in
    let h = c.loop-length-test.true in
    let long : length flags ≡ n =
    between-length a.threshold contour ∙ length-take-le n (drop s.at (all start)) (omega (arith, length-drop s.at (all start), as_many start)) in
    let own : c.identify_corners.new.flags ≡ flags =
    c.identify_corners.ensures
    ∙ rw (
      mid_len s.at (s.at + n) s.flags (omega arith),
      decode-part s.at (s.at + n) (edges start) a.directions.now (omega arith) inside,
      m,
    ) in (
      next-passed _ _ _ _ s.invariant.0 h,
      s.invariant.1
          ∙ rw (
            all-step a.threshold a.lengths.now (all start) s.length-index s.at h,
            own,
            over-part s.at (s.at + n - s.at) flags s.flags (long ∙ sym m),
          )
          (over-more s.at n flags _ s.flags long (omega arith)),
    )

pub returns : goal.returns
returns c =
    let start = (goal.at.returns c).Start in
    let s = c.loop-length in
    let a = c.args in
    sym (s.invariant.1 ∙ rw (all_end a.threshold a.lengths.now (all start) s.length-index s.at (omega arith)) (over_nothing s.at s.flags))
