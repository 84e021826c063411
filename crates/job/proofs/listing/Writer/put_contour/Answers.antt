-- The answers for `put_contour`, by the invariant of Invariants.antt.
use Rattle.std.proofs.Common.{◌≡◌, ℕ, List, [], ◌+◌, ◌++◌, get_or, drop, arith}
use lib.ListN.{drop_of_length-le}
use Rattle.job.specs.Listing.{edge_line, contour_lines}
use Rattle.job.proofs.listing.ListingLaws.{contour-step}
use Rattle.job.proofs.listing.WriterLaws.{writing_begin, writing_room, writing_next, writing_end}
use Rattle.job.proofs.listing.Writer.put_contour.Goals as goal
use Rattle.job.proofs.listing.Writer.put_contour.Goals.{In-loop-place}

-- the line at this place, and those after it
module _ (c : In-loop-place) where
  abbrev i : ℕ
  i = c.loop-place.place

  abbrev here : List ℕ
  here = edge_line c.args.contour i (get_or c.args.edges.kinds.now i 0) (get_or c.args.edges.colors.now i 0)

  abbrev later : List ℕ
  later = contour_lines c.args.contour (i + 1) (drop (i + 1) c.args.edges.kinds.now) (drop (i + 1) c.args.edges.colors.now)

  step : contour_lines c.args.contour i (drop i c.args.edges.kinds.now) (drop i c.args.edges.colors.now) ≡ here ++ later
  step = contour-step c.args.contour i c.args.edges.kinds.now c.args.edges.colors.now c.loop-place-test.true c.args.edges.colored

pub loop-place-init : goal.loop-place-init
loop-place-init c = writing_begin c.requires.1

pub put_line-requires : goal.put_line-requires
put_line-requires c =
    let place = (goal.at.put_line-requires c).In-loop-place in
    (c.requires.0, omega (arith, c.args.edges.few), writing_room (here place) (later place) (step place) c.loop-place.invariant)

pub loop-place-preserved : goal.loop-place-preserved
loop-place-preserved c =
    let place = (goal.at.loop-place-preserved c).In-loop-place in
    writing_next (here place) (later place) (step place) c.loop-place.invariant c.put_line.ensures

pub returns : goal.returns
unfolding contour_lines
returns c =
    let none : drop c.loop-place.place c.args.edges.kinds.now ≡ [] = drop_of_length-le c.args.edges.kinds.now {i = c.loop-place.place} (omega arith) in
    writing_end (rw none at c.loop-place.invariant)
