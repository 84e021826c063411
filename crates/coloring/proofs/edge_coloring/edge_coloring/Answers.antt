-- `edge_coloring` meets its contract: a refusal of the checks, or the corners and then the edges and their colours.
use mathlib.Core.Path.{◌≡◌, sym, ap, ◌∙◌}
use mathlib.Core.Bool.{Bool, false}
use mathlib.Core.List.{List, [], ◌∷◌, ◌++◌}
use Prim.Native.Nat.{ℕ, ◌≤◌, ◌<◌}
use native.Mathlib.Omega.{arith}
use lib.Dec.{leb}
use lib.Ieee.{Float}
use lib.ListN.{length, take, drop, replicate}
use lib.Seq.{length-take-le, take_at}
use borrow.Author.Tests.{le-leb, lt-leb}
use Rattle.geometry.specs.declared.edge_segment.EdgeSegment.{EdgeSegment}
use Rattle.coloring.specs.declared.settings.Settings.{Settings}
use Rattle.std.proofs.lemmas.Result.{err_from_is_err_and}
use Rattle.coloring.specs.Answers.{all_pass, refusal, Check, unless, checked_answer, first_refusal}
use Rattle.coloring.specs.Corners.{Cornered, Found, found_in, cornered, find_corners}
use Rattle.coloring.specs.Outline.{Outline, outline_in, Result, result_in, outcome, edges_of, contours, check, Agrees}
use Rattle.coloring.specs.Contours.{contour_in}
use Rattle.coloring.specs.Shape.{deliver_found}
use Rattle.coloring.specs.EdgeColoring.{edge_coloring}
use Rattle.coloring.specs.DeliverLaws.{found_passed, found_failed}
use Rattle.coloring.proofs.outline.EdgeLaws.{edges-length}
use Rattle.coloring.proofs.shape.DeliverLaws.{passed_agrees}
use Rattle.coloring.proofs.edge_coloring.edge_coloring.Goals as goal
use Rattle.coloring.proofs.edge_coloring.edge_coloring.Goals.{After-find_corners-stand_ins, After-new-all, In_ok-check, Start}

abbrev none : List Bool
none = replicate 256 false

-- the outcome by the checks
module _ (settings : Settings) (o : Outline) (distances : List Float) where
  abbrev checks : List Check
  checks = unless 4 (leb (length distances) 2016) ∷ check o settings.threshold

  abbrev found : Found
  found = find_corners settings.threshold (contours o)

  too_many : 2016 < length distances → first_refusal checks ≡ refusal 4
  unfolding first_refusal
  too_many h = rw (lt-leb (length distances) 2016 h)

  not_many : length distances ≤ 2016 → first_refusal checks ≡ first_refusal (check o settings.threshold)
  unfolding first_refusal
  not_many h = rw (le-leb (length distances) 2016 h)

  refused : (old : Result) {number : ℕ} → first_refusal checks ≡ refusal number → outcome (refusal number) old ≡ edge_coloring settings o distances old
  unfolding edge_coloring
  refused old e = found_failed settings distances found old checks e

  goes_on : (old : Result) {flagged : Found} → first_refusal checks ≡ all_pass → flagged ≡ found
      → deliver_found [] settings distances flagged old ≡ edge_coloring settings o distances old
  unfolding edge_coloring
  goes_on old e found-are = rw found-are (sym (found_passed settings distances found old checks e))

abbrev old : Start → Result
old s = result_in s.args.out.now

abbrev given : Start → Outline
given s = outline_in s.args.outline

-- the checks are passed
module _ (c : In_ok-check) where
  abbrev start : Start
  start = (goal.at.In_ok-check c).Start

  passed : first_refusal (check (given start) c.args.settings.threshold) ≡ all_pass
  passed = sym c.check.ensures ∙ ap checked_answer c.in_ok-check.was

  agreed : Agrees (given start)
  unfolding check
  agreed = passed_agrees _ _ passed

  all-passed : first_refusal (checks c.args.settings (given start) c.args.distances.now) ≡ all_pass
  all-passed = not_many c.args.settings (given start) c.args.distances.now c.if-distances-gt-MAX_DISTANCES.false ∙ passed

pub invariant_of-edges : goal.invariant_of-edges
invariant_of-edges c =
    let a = agreed (goal.at.invariant_of-edges c).In_ok-check in
    record { places = a.places; few = a.few }

-- the corners are searched
module _ (c : After-find_corners-stand_ins) where
  abbrev in_ok : In_ok-check
  in_ok = (goal.at.After-find_corners-stand_ins c).In_ok-check

  abbrev n : ℕ
  n = c.len-n.result

  abbrev flags : List Bool
  flags = c.find_corners-stand_ins.new.flags

  size : length flags ≡ n
  size = c.find_corners-stand_ins.auto.flags ∙ length-take-le n none (omega (arith, c.len-n.ensures, (agreed in_ok).few))

  -- the array with them, and its first part
  front : take n (flags ++ drop n none) ≡ flags
  front = take_at flags (drop n none) n size

pub returns-then-distances-gt-MAX_DISTANCES-clause-colored : goal.returns-then-distances-gt-MAX_DISTANCES-clause-colored
returns-then-distances-gt-MAX_DISTANCES-clause-colored c =
    let start = (goal.at.returns-then-distances-gt-MAX_DISTANCES-clause-colored c).Start in
    refused c.args.settings (given start) c.args.distances.now (old start)
    (too_many c.args.settings (given start) c.args.distances.now c.if-distances-gt-MAX_DISTANCES.true)

pub returns-in_err-check-clause-colored : goal.returns-in_err-check-clause-colored
returns-in_err-check-clause-colored c =
    let start = (goal.at.returns-in_err-check-clause-colored c).Start in
    let p = err_from_is_err_and c.from_residual.result c.from_residual.ensures.1 in
    let failed = sym c.check.ensures ∙ ap checked_answer c.in_err-check.was in
    rw (p.1, p.2) (
    refused c.args.settings (given start) c.args.distances.now (old start)
    (not_many c.args.settings (given start) c.args.distances.now c.if-distances-gt-MAX_DISTANCES.false ∙ failed)
    )

pub find_corners-stand_ins-requires : goal.find_corners-stand_ins-requires
find_corners-stand_ins-requires c =
    let a = agreed (goal.at.find_corners-stand_ins-requires c).In_ok-check in
    (sym a.edges, length-take-le c.len-n.result none (omega (arith, c.len-n.ensures, a.few)) ∙ c.len-n.ensures)

-- the contours with their corners
module _ (c : After-new-all) where
  abbrev in_ok_of_all : In_ok-check
  in_ok_of_all = (goal.at.After-new-all c).In_ok-check

  abbrev searched : After-find_corners-stand_ins
  searched = (goal.at.After-new-all c).After-find_corners-stand_ins

  abbrev edges : List EdgeSegment
  edges = edges_of c.args.outline.kinds.now c.args.outline.points.now

  is : contour_in c.new-all.result ≡ record { edges = edges; corners = flags searched }
  is = rw (front searched) at c.new-all.ensures

  as_many : length c.new-all.result.edges.kinds.now ≡ length c.args.outline.kinds.now
  as_many =
      let own = c.new-all.result.edges in
      sym (edges-length own.kinds.now own.points.now)
      ∙ ap (λ (contour : Cornered). length contour.edges) is
      ∙ edges-length c.args.outline.kinds.now c.args.outline.points.now

pub invariant_of-color_shape : goal.invariant_of-color_shape
invariant_of-color_shape c =
    let all = (goal.at.invariant_of-color_shape c).After-new-all in
    let a = agreed (in_ok_of_all all) in
    record { whole = sym a.edges ∙ sym (as_many all); contours_few = a.contours-few }

pub returns-clause-colored : goal.returns-clause-colored
unfolding contours
returns-clause-colored c =
    let all = (goal.at.returns-clause-colored c).After-new-all in
    let start = (goal.at.returns-clause-colored c).Start in
    let lengths = c.args.outline.lengths.now in
    let shape : Cornered → Found = λ contour. found_in (cornered lengths contour.edges contour.corners) c.find_corners-stand_ins.result in
    c.color_shape.ensures.delivered
    ∙ goes_on c.args.settings (given start) c.args.distances.now (old start) (all-passed (in_ok_of_all all))
    (ap shape (is all) ∙ c.find_corners-stand_ins.ensures)
