-- `spline_values` meets its contract, marking by marking.
use mathlib.Core.Path.{◌≡◌, refl, sym, ap, ◌∙◌}
use mathlib.Core.List.{List, map}
use Prim.Native.Nat.{ℕ, ◌≤◌, ◌<◌}
use lib.Ieee.{Float}
use lib.ListN.{length}
use borrow.Author.Tests.{le-leb, lt-leb}
use Rattle.std.proofs.lemmas.Result.{err_from_is_err_and}
use Rattle.geometry.specs.EdgeColor.{bits_of}
use Rattle.std.proofs.Common.{Result, Ok, Err}
use Rattle.coloring.specs.declared.refusal.Refusal.{Refusal}
use Rattle.coloring.specs.declared.refusal.Refusal.TheVariants.{TooMany}
use Rattle.coloring.specs.Answers.{checked_answer, first_refusal}
use Rattle.coloring.specs.Lists.{range}
use Rattle.coloring.specs.SplineColors.{color_splines, splines_colored, color_splines_into}
use Rattle.coloring.specs.declared.settings.Strategy.{Strategy}
use Rattle.coloring.specs.declared.settings.Marking.{Marking}
use Rattle.coloring.specs.declared.settings.Marking.TheVariants.{Colors, Numbers, Distances}
use Rattle.coloring.specs.Switching.{init_color}
use Rattle.coloring.specs.Corners.{Cornered}
use Rattle.coloring.specs.Splines.{spline_total}
use Rattle.coloring.specs.Values.{shape_colors, spline_color, spline_values, check_marking}
use Rattle.coloring.specs.Contours.{contours_in}
use Rattle.coloring.proofs.shape.DeliverLaws.{splines-cut}
use Rattle.coloring.proofs.spline_colors.CheckLaws.{splines_answered}
use Rattle.coloring.proofs.values.spline_values.Goals as goal
use Rattle.coloring.proofs.values.spline_values.Goals.{Start}

-- the answer and the bytes for n splines of the contours found
module _ (distances : List Float) (found : List Cornered) (n : ℕ) (sized : n ≡ spline_total found) where
  abbrev Valued : Marking → Result Unit Refusal → List ℕ → Type 0
  Valued marking r values = (checked_answer r ≡ first_refusal (check_marking marking n distances)) ×
      (r ≡ (Ok tt) → values ≡ spline_values marking distances found)

  module _ {marking : Marking} {values : List ℕ} where
    by_colors : {strategy : Strategy} {seed : ℕ} → marking ≡ Colors strategy seed
        → values ≡ map bits_of (shape_colors strategy (init_color seed) found) → Valued marking (Ok tt) values
    unfolding spline_values first_refusal
    by_colors m e = rw m (refl, λ p. e)

    too_many : marking ≡ Numbers → 64 < n → Valued marking (Err TooMany) values
    unfolding first_refusal
    too_many m h = rw m (rw (lt-leb n 64 h), λ p. cc)

    by_numbers : marking ≡ Numbers → n ≤ 64 → values ≡ range 0 n → Valued marking (Ok tt) values
    unfolding spline_values first_refusal
    by_numbers m h e = rw m (rw (le-leb n 64 h), λ p. e ∙ ap (range 0) sized)

    by_distances : (old : List ℕ) {seed : ℕ} {r : Result Unit Refusal} {coloring : List ℕ} → marking ≡ Distances seed → length old ≡ n
        → splines_colored (checked_answer r) coloring ≡ color_splines_into distances seed old → values ≡ map (λ color. bits_of (spline_color color)) coloring
        → Valued marking r values
    unfolding spline_values
    by_distances old {seed} {r} {coloring} m long colors e =
        let outcome = splines_answered distances seed old r coloring colors in
        rw m (
          rw long at outcome.0,
          λ p. e ∙ ap (map (λ color. bits_of (spline_color color))) (outcome.1 p ∙ ap (λ (k : ℕ). color_splines k distances seed) (long ∙ sized)),
        )

module _ (c : Start) where
  abbrev found : List Cornered
  found = contours_in c.args.contours

  size : length c.args.values.now ≡ spline_total found
  size = c.requires ∙ sym (splines-cut c.args.contours.lengths.now _ c.args.contours.all.flags.now)

pub returns-then-values-gt-MAX_SPLINES : goal.returns-then-values-gt-MAX_SPLINES
returns-then-values-gt-MAX_SPLINES c =
    let start = (goal.at.returns-then-values-gt-MAX_SPLINES c).Start in
    let v =
    too_many c.args.distances.now (found start) _ (size start) c.in-Numbers.is c.if-values-gt-MAX_SPLINES.true in
    record { answer = v.0; bytes = v.1 }

pub returns-in-Colors : goal.returns-in-Colors
returns-in-Colors c =
    let start = (goal.at.returns-in-Colors c).Start in
    let v =
    by_colors c.args.distances.now (found start) _ (size start) c.in-Colors.is c.shape_colors.ensures in
    record { answer = v.0; bytes = v.1 }

pub returns-else-values-gt-MAX_SPLINES : goal.returns-else-values-gt-MAX_SPLINES
returns-else-values-gt-MAX_SPLINES c =
    let start = (goal.at.returns-else-values-gt-MAX_SPLINES c).Start in
    let v =
    by_numbers c.args.distances.now (found start) _ (size start) c.in-Numbers.is c.if-values-gt-MAX_SPLINES.false c.count_up.ensures in
    record { answer = v.0; bytes = v.1 }

pub returns-in_err-color_splines-in-Distances : goal.returns-in_err-color_splines-in-Distances
returns-in_err-color_splines-in-Distances c =
    let start = (goal.at.returns-in_err-color_splines-in-Distances c).Start in
    let p = err_from_is_err_and c.from_residual.result c.from_residual.ensures.1 in
    let told = by_distances c.args.distances.now (found start) _ (size start) _ c.in-Distances.is refl c.color_splines.ensures refl in
    rw (p.1, p.2) (record { answer = sym (ap checked_answer c.in_err-color_splines-in-Distances.was) ∙ told.0; bytes = λ q. cc })

pub returns-in_ok-color_splines-in-Distances : goal.returns-in_ok-color_splines-in-Distances
returns-in_ok-color_splines-in-Distances c =
    let start = (goal.at.returns-in_ok-color_splines-in-Distances c).Start in
    let told = by_distances c.args.distances.now (found start) _ (size start) _ c.in-Distances.is refl c.color_splines.ensures c.color_numbers.ensures in
    record { answer = sym (ap checked_answer c.in_ok-color_splines-in-Distances.was) ∙ told.0; bytes = λ q. told.1 c.in_ok-color_splines-in-Distances.was }
