-- The answers for `put_shape`, by the invariant of Invariants.antt.
use Rattle.std.proofs.Common.{◌≡◌, ℕ, List, [], ◌+◌, ◌-◌, ◌≤◌, ◌++◌, length, take, drop, arith}
use lib.ListN.{drop_of_length-le}
use Rattle.coloring.specs.Outline.{cut}
use Rattle.job.specs.Listing.{contour_lines, shape_lines}
use Rattle.job.proofs.listing.ListingLaws.{shape_step, total-step}
use Rattle.job.proofs.listing.WriterLaws.{writing_begin, writing_room, writing_next, writing_end}
use Rattle.job.proofs.listing.Writer.put_shape.Invariants.{lines}
use Rattle.job.proofs.listing.Writer.put_shape.Goals as goal
use Rattle.job.proofs.listing.Writer.put_shape.Goals.{After-from}

-- the lines of this contour, and those after it
module _ (c : After-from) where
  abbrev contour : ℕ
  contour = c.loop-contour.contour

  abbrev from : ℕ
  from = c.loop-contour.from

  abbrev n : ℕ
  n = c.from.result

  -- its edges lie in the buffers
  inside : from + n ≤ length c.args.edges.kinds.now
  inside = omega (arith, c.loop-contour.invariant.edges, c.from.ensures, total-step contour c.args.lengths.now c.loop-contour-test.true)

  -- as the code cuts them out
  abbrev k : ℕ
  k = from + n - from

  is_n : k ≡ n
  is_n = omega arith

  abbrev here : List ℕ
  here = contour_lines contour 0 (take k (drop from c.args.edges.kinds.now)) (take k (drop from c.args.edges.colors.now))

  abbrev later : List ℕ
  later = lines (contour + 1) (drop (contour + 1) c.args.lengths.now) (drop (from + n) c.args.edges.kinds.now) (drop (from + n) c.args.edges.colors.now)

  step : lines contour (drop contour c.args.lengths.now) (drop from c.args.edges.kinds.now) (drop from c.args.edges.colors.now) ≡ here ++ later
  step = rw is_n (shape_step contour from n c.args.lengths.now c.args.edges.kinds.now c.args.edges.colors.now c.loop-contour-test.true c.from.ensures)

pub loop-contour-init : goal.loop-contour-init
loop-contour-init c = record { edges = omega (arith, c.requires.sizes.1); writing = writing_begin c.requires.room }

pub slice_bounds-part-end : goal.slice_bounds-part-end
slice_bounds-part-end c = omega (arith, inside (goal.at.slice_bounds-part-end c).After-from)

pub put_contour-requires : goal.put_contour-requires
put_contour-requires c =
    let at = (goal.at.put_contour-requires c).After-from in
    (omega (arith, c.loop-contour-test.true, c.requires.sizes.0), writing_room (here at) (later at) (step at) c.loop-contour.invariant.writing)

pub loop-contour-preserved : goal.loop-contour-preserved
loop-contour-preserved c =
    let at = (goal.at.loop-contour-preserved c).After-from in
    record {
      edges = omega (arith, c.loop-contour.invariant.edges, c.from.ensures, total-step (contour at) c.args.lengths.now c.loop-contour-test.true);
      writing = writing_next (here at) (later at) (step at) c.loop-contour.invariant.writing c.put_contour.ensures;
    }

pub returns : goal.returns
unfolding shape_lines cut
returns c =
    let none : drop c.loop-contour.contour c.args.lengths.now ≡ [] =
    drop_of_length-le c.args.lengths.now {i = c.loop-contour.contour} (omega arith) in
    writing_end (rw none at c.loop-contour.invariant.writing)
