-- `color_shape` meets its contract: the splines are counted and get their values, or there is a refusal; 11 where the
-- count says so; or the result.
use mathlib.Core.Path.{◌≡◌, sym, ap, ◌∙◌}
use mathlib.Core.List.{List, [], ◌++◌, map}
use Prim.Native.Nat.{ℕ, ◌≤◌}
use native.Mathlib.Omega.{arith}
use lib.ListN.{length, take, drop, replicate, length-append}
use lib.Seq.{length-take-le, take_at}
use Rattle.std.proofs.lemmas.Result.{err_from_is_err_and}
use Rattle.geometry.specs.declared.edge_segment.EdgeSegment.{EdgeSegment}
use Rattle.coloring.specs.Answers.{all_pass, checked_answer, first_refusal}
use Rattle.coloring.specs.declared.outline.Counts.{Counts}
use Rattle.coloring.specs.declared.settings.Marking.{Marking}
use Rattle.coloring.specs.Limits.{max_shape_splines}
use Rattle.coloring.specs.Corners.{Cornered, Found, found_in}
use Rattle.coloring.specs.Layout.{layout}
use Rattle.coloring.specs.Splines.{spline_total}
use Rattle.coloring.specs.Values.{check_marking, middle_value}
use Rattle.coloring.specs.Outline.{Result, result_in, result_fits, delivered}
use Rattle.coloring.specs.Contours.{stored_edges, contours_in}
use Rattle.coloring.specs.Shape.{painted, deliver_values, deliver_found}
use Rattle.coloring.specs.DeliverLaws.{values-passed, values_failed, deliver-short, deliver_fits}
use Rattle.coloring.proofs.outline.EdgeLaws.{edges-length}
use Rattle.coloring.proofs.layout.SplitLaws.{values-laid}
use Rattle.coloring.proofs.shape.DeliverLaws.{cut-flagged, splines-counted, counts-laid, counted-sized, sized_fits}
use Rattle.coloring.proofs.shape.color_shape.Goals as goal
use Rattle.coloring.proofs.shape.color_shape.Goals.{After-count_shape-counts, After-spline_values, After-have_room, Start}

abbrev zeros : List ℕ
zeros = replicate max_shape_splines 0

-- the contours with their corners
module _ (c : Start) where
  abbrev lengths : List ℕ
  lengths = c.args.contours.lengths.now

  abbrev edges : List EdgeSegment
  edges = stored_edges c.args.contours.all.edges

  abbrev found : List Cornered
  found = contours_in c.args.contours

  -- and the stand-ins
  abbrev given : Found
  given = found_in found c.args.stand_ins

  abbrev old : Result
  old = result_in c.args.out.now

  flagged : length c.args.contours.all.flags.now ≡ length edges
  flagged = c.args.contours.all.flagged ∙ sym (edges-length c.args.contours.all.edges.kinds.now c.args.contours.all.edges.points.now)

-- the splines are counted
module _ (c : After-count_shape-counts) where
  abbrev start_of_count : Start
  start_of_count = (goal.at.After-count_shape-counts c).Start

  abbrev counts : Counts
  counts = c.count_shape-counts.result

  few : counts.splines ≤ max_shape_splines
  few = c.count_shape-counts.ensures.0.splines-few

  long : length (take counts.splines zeros) ≡ counts.splines
  long = length-take-le counts.splines zeros few

-- they have their values, or there is a refusal
module _ (c : After-spline_values) where
  abbrev start : Start
  start = (goal.at.After-spline_values c).Start

  abbrev counted : After-count_shape-counts
  counted = (goal.at.After-spline_values c).After-count_shape-counts

  abbrev n : ℕ
  n = c.count_shape-counts.result.splines

  abbrev marking : Marking
  marking = c.args.settings.marking

  answer : checked_answer c.spline_values.result ≡ first_refusal (check_marking marking (spline_total (map layout (found start))) c.args.distances.now)
  answer =
      let total = splines-counted (lengths start) (edges start) c.args.contours.all.flags.now c.count_shape-counts.result (flagged start)
      c.count_shape-counts.ensures.0 in
      c.spline_values.ensures.answer ∙ ap (λ (k : ℕ). first_refusal (check_marking marking k c.args.distances.now)) (long counted ∙ sym total)

  abbrev values : List ℕ
  values = c.spline_values.new.values

  size : length values ≡ n
  size = c.spline_values.auto.values ∙ long counted

  -- the array with them, and its first part
  within : n ≤ length (values ++ drop n zeros)
  within = rw (length-append, size) (omega arith)

  front : take n (values ++ drop n zeros) ≡ values
  front = take_at values (drop n zeros) n size

-- there is room, or not
module _ (c : After-have_room) where
  abbrev room_start : Start
  room_start = (goal.at.After-have_room c).Start

  abbrev valued : After-spline_values
  valued = (goal.at.After-have_room c).After-spline_values

  abbrev written : Result
  written = painted c.args.settings.division (middle_value c.args.settings.marking) (values valued) (map layout (found room_start))

  fit : result_fits written (old room_start) ≡ c.have_room.result
  fit =
      sized_fits (old room_start)
      (counted-sized (lengths room_start) (edges room_start) c.args.contours.all.flags.now c.count_shape-counts.result (flagged room_start)
      c.count_shape-counts.ensures.0 _ _ _)
      ∙ sym c.have_room.ensures

pub returns-in_err-spline_values-clause-delivered : goal.returns-in_err-spline_values-clause-delivered
returns-in_err-spline_values-clause-delivered c =
    let start = (goal.at.returns-in_err-spline_values-clause-delivered c).Start in
    let valued = (goal.at.returns-in_err-spline_values-clause-delivered c).After-spline_values in
    let p = err_from_is_err_and c.from_residual.result c.from_residual.ensures.1 in
    rw (p.1, p.2) (
    values_failed c.args.settings c.args.distances.now (given start) (old start) (sym (answer valued) ∙ ap checked_answer c.in_err-spline_values.was)
    )

-- the checks of the splines are passed
module _ (c : After-have_room) where
  passed : first_refusal (check_marking (marking (valued c)) (spline_total (map layout (found (room_start c)))) c.args.distances.now) ≡ all_pass
  passed = sym (answer (valued c)) ∙ ap checked_answer c.in_ok-spline_values.was

  on : deliver_values [] c.args.settings (values (valued c)) (map layout (found (room_start c))) c.args.stand_ins (old (room_start c))
      ≡ deliver_found [] c.args.settings c.args.distances.now (given (room_start c)) (old (room_start c))
  on =
      let split = values-laid (marking (valued c)) c.args.distances.now (found (room_start c))
      (cut-flagged (lengths (room_start c)) (edges (room_start c)) c.args.contours.all.flags.now (flagged (room_start c))) in
      values-passed c.args.settings c.args.distances.now (given (room_start c)) (old (room_start c)) passed
      (c.spline_values.ensures.bytes c.in_ok-spline_values.was ∙ sym split)

pub returns-then-not-have_room-clause-delivered : goal.returns-then-not-have_room-clause-delivered
returns-then-not-have_room-clause-delivered c =
    let at = (goal.at.returns-then-not-have_room-clause-delivered c).After-have_room in
    sym (deliver-short _ _ _ (fit at ∙ c.if-not-have_room.true)) ∙ on at

pub returns-clause-delivered : goal.returns-clause-delivered
unfolding delivered
returns-clause-delivered c =
    let at = (goal.at.returns-clause-delivered c).After-have_room in
    let start = room_start at in
    let counts-are = counts-laid (lengths start) (edges start) c.args.contours.all.flags.now c.count_shape-counts.result (flagged start)
    c.count_shape-counts.ensures.0 in
    let buffers = rw (front (valued at)) at c.write_contours.ensures.written in
    rw (buffers, counts-are, c.count_shape-counts.ensures.1) (sym (deliver_fits _ _ _ (fit at ∙ c.if-not-have_room.false)) ∙ on at)
