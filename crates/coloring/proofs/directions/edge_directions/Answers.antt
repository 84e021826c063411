-- `edge_directions` meets its contract: a refusal of the checks, 11, or the directions of all edges.
use mathlib.Core.Path.{◌≡◌, refl, sym, ap, ◌∙◌}
use mathlib.Core.Bool.{true, false}
use mathlib.Core.List.{List, [], ◌++◌, map, flatten}
use Prim.Native.Nat.{ℕ, ◌*◌, ◌≤◌, ◌<◌}
use native.Mathlib.Omega.{arith}
use borrow.Author.Tests.{le-leb, lt-leb}
use lib.ListN.{length, drop, length-map}
use Rattle.std.proofs.lemmas.Result.{err_from_is_err_and}
use Rattle.geometry.specs.EdgeSegment.{unit_directions}
use Rattle.geometry.specs.declared.edge_segment.Directions.{Directions}
use Rattle.coloring.specs.Answers.{gives, refusal, all_pass, checked_answer, first_refusal}
use Rattle.coloring.specs.Fill.{fill_outcome, fill_with, with_failed, with-short, with-room}
use Rattle.coloring.specs.Lists.{over}
use Rattle.coloring.specs.Corners.{directions_of, stand_in_marks, marks_of}
use Rattle.coloring.specs.Outline.{Outline, outline_in, edges_of, contours, check_outline, Agrees}
use Rattle.coloring.specs.Directions.{direction_places, encode_directions, edge_directions}
use Rattle.coloring.specs.Directions.{DirectionBuffers, direction_buffers, directions_fit, directions_over, fill_directions}
use Rattle.coloring.proofs.outline.EdgeLaws.{edges-length}
use Rattle.coloring.proofs.shape.DeliverLaws.{passed_agrees}
use Rattle.coloring.proofs.directions.DirectionLaws.{places-length, directions-whole}
use Rattle.coloring.proofs.directions.edge_directions.Goals as goal
use Rattle.coloring.proofs.directions.edge_directions.Goals.{In_ok-check_outline, Start, then-places-out_directions-via-then-places-out_directions}
use Rattle.coloring.proofs.directions.edge_directions.Goals.{then-places-out_directions-via-else-places-out_directions+then-marks-out_stand_ins}

-- the outcome by the checks and by how long the buffers are
module _ (o : Outline) (old : DirectionBuffers) where
  -- contour by contour, and through all contours
  abbrev directions : List Directions
  directions = flatten (map directions_of (contours o))

  abbrev all : List Directions
  all = directions_of (edges_of o.kinds o.points)

  abbrev written : DirectionBuffers
  written = direction_buffers (encode_directions all) (marks_of all)

  refused : {number : ℕ} → first_refusal (check_outline o) ≡ refusal number → fill_outcome (refusal number) old ≡ edge_directions o old
  unfolding edge_directions
  refused e =
      let found = direction_buffers (encode_directions directions) (marks_of directions) in
      with_failed (check_outline o) (length directions) (directions_over found old) old (directions_fit found old) e

  module _ (passed : first_refusal (check_outline o) ≡ all_pass) where
    agrees : Agrees o
    unfolding check_outline
    agrees = passed_agrees o [] passed

    whole : directions ≡ all
    unfolding contours
    whole = directions-whole o.lengths _ (sym agrees.edges ∙ sym (edges-length o.kinds o.points))

    as_many : length all ≡ length o.kinds
    as_many = length-map (edges_of o.kinds o.points) unit_directions ∙ edges-length o.kinds o.points

    long : length (encode_directions all) ≡ 4 * length o.kinds
    unfolding encode_directions
    long = places-length 4 direction_places (λ d. refl) (edges_of o.kinds o.points) ∙ ap (λ n. 4 * n) (edges-length o.kinds o.points)

    marks_long : length (marks_of all) ≡ 2 * length o.kinds
    unfolding marks_of
    marks_long = places-length 2 stand_in_marks (λ d. refl) (edges_of o.kinds o.points) ∙ ap (λ n. 2 * n) (edges-length o.kinds o.points)

    outcome_is : edge_directions o old
        ≡ fill_with (check_outline o) (length o.kinds) (directions_fit written old) (directions_over written old) old
    unfolding edge_directions
    outcome_is =
        ap (λ (d : List Directions). fill_directions o d old) whole
        ∙ ap (λ n. fill_with (check_outline o) n (directions_fit written old) (directions_over written old) old) as_many

    short : directions_fit written old ≡ false → fill_outcome (refusal 11) old ≡ edge_directions o old
    short e = with-short (check_outline o) (length o.kinds) (directions_over written old) old passed e ∙ sym outcome_is

    directions-short : length old.directions < 4 * length o.kinds → fill_outcome (refusal 11) old ≡ edge_directions o old
    directions-short h = short (rw (long, lt-leb (4 * length o.kinds) (length old.directions) h))

    module _ (h : 4 * length o.kinds ≤ length old.directions) where
      marks-short : length old.stand_ins < 2 * length o.kinds → fill_outcome (refusal 11) old ≡ edge_directions o old
      marks-short j =
          short (rw (long, marks_long, le-leb (4 * length o.kinds) _ h, lt-leb (2 * length o.kinds) _ j))

      fits : 2 * length o.kinds ≤ length old.stand_ins
          → fill_outcome (gives (length o.kinds))
          (direction_buffers (encode_directions all ++ drop (4 * length o.kinds) old.directions)
          (marks_of all ++ drop (2 * length o.kinds) old.stand_ins))
          ≡ edge_directions o old
      unfolding over
      fits j =
          let room : directions_fit written old ≡ true =
          rw (long, marks_long, le-leb (4 * length o.kinds) (length old.directions) h, le-leb (2 * length o.kinds) (length old.stand_ins) j) in
          rw (← long, ← marks_long) (with-room (check_outline o) (length o.kinds) (directions_over written old) old passed room ∙ sym outcome_is)

abbrev old : Start → DirectionBuffers
old s = direction_buffers s.args.out_directions.now s.args.out_stand_ins.now

abbrev given : Start → Outline
given s = outline_in s.args.outline

pub returns-in_err-check_outline : goal.returns-in_err-check_outline
returns-in_err-check_outline c =
    let start = (goal.at.returns-in_err-check_outline c).Start in
    let p = err_from_is_err_and c.from_residual.result c.from_residual.ensures.1 in
    rw (p.1, p.2) (refused (given start) (old start) (sym c.check_outline.ensures ∙ ap checked_answer c.in_err-check_outline.was))

-- and passed
module _ (c : In_ok-check_outline) where
  abbrev start_of_checked : Start
  start_of_checked = (goal.at.In_ok-check_outline c).Start

  passed : first_refusal (check_outline (given start_of_checked)) ≡ all_pass
  passed = sym c.check_outline.ensures ∙ ap checked_answer c.in_ok-check_outline.was

  agreed : Agrees (given start_of_checked)
  agreed = agrees (given start_of_checked) (old start_of_checked) passed

pub invariant_of-edges : goal.invariant_of-edges
invariant_of-edges c =
    let a = agreed (goal.at.invariant_of-edges c).In_ok-check_outline in
    record { places = a.places; few = a.few }

pub overflow_mul-places : goal.overflow_mul-places
overflow_mul-places c = omega (arith, (agreed (goal.at.overflow_mul-places c).In_ok-check_outline).few)

pub returns-then-places-out_directions : goal.returns-then-places-out_directions
returns-then-places-out_directions c =
    let at = (goal.at.returns-then-places-out_directions c).In_ok-check_outline in
    let start = (goal.at.returns-then-places-out_directions c).Start in
    elim c.then-places-out_directions.branch [
      | then-places-out_directions-via-then-places-out_directions w ↦
          directions-short (given start) (old start) (passed at) w.if-places-out_directions.true
      | then-places-out_directions-via-else-places-out_directions+then-marks-out_stand_ins w ↦
          marks-short (given start) (old start) (passed at) w.if-places-out_directions.false w.if-marks-out_stand_ins.true
    ]

pub unit_directions-requires-clause-sizes : goal.unit_directions-requires-clause-sizes
unit_directions-requires-clause-sizes c =
    sym (agreed (goal.at.unit_directions-requires-clause-sizes c).In_ok-check_outline).edges

pub returns : goal.returns
returns c =
    let at = (goal.at.returns c).In_ok-check_outline in
    let start = (goal.at.returns c).Start in
    rw (c.unit_directions.ensures.out_after, c.unit_directions.ensures.marks_after)
    (fits (given start) (old start) (passed at) c.if-places-out_directions.false c.if-marks-out_stand_ins.false)
