-- What becomes of a result by the checks before it.
use Rattle.std.specs.Prelude.{ℕ, ◌≡◌, true, false, Float}
use Rattle.std.proofs.Math.Path.{refl, sym, ap}
use Rattle.std.proofs.Common.{◌∙◌}
use mathlib.Core.List.{List, [], ◌++◌, map, append_assoc}
use Rattle.coloring.specs.declared.outline.Counts.{Counts}
use Rattle.coloring.specs.declared.settings.Settings.{Settings}
use Rattle.coloring.specs.Answers.{Answer, gives, refusal, Check, in_order, all_pass}
use Rattle.coloring.specs.Answers.{first_refusal, passed_on, failed_on, all-passed, one_failed, refused-first}
use Rattle.coloring.specs.Corners.{Cornered, Found}
use Rattle.coloring.specs.Layout.{layout}
use Rattle.coloring.specs.Splines.{spline_total}
use Rattle.coloring.specs.Values.{spline_values, middle_value, check_marking}
use Rattle.coloring.specs.Outline.{Result, Outcome, outcome, result_fits, delivered, deliver}
use Rattle.coloring.specs.Shape.{painted, counts_of, deliver_values, deliver_found}

module _ (counts : Counts) (written old : Result) where
  pub deliver_fits : result_fits written old ≡ true → deliver [] counts written old ≡ delivered counts written old
  unfolding deliver
  deliver_fits e = rw (e, deliver)

  pub deliver-short : result_fits written old ≡ false → deliver [] counts written old ≡ outcome (refusal 11) old
  unfolding deliver
  deliver-short e = rw (e, deliver)

  -- checks that pass leave it to those after them
  pub deliver_on : (checks more : List Check) → first_refusal checks ≡ all_pass → deliver (checks ++ more) counts written old ≡ deliver more counts written old
  unfolding deliver
  deliver_on checks more e = rw append_assoc (passed_on checks _ _ _ e)

  pub deliver-passed : (checks : List Check) → first_refusal checks ≡ all_pass → deliver checks counts written old ≡ deliver [] counts written old
  unfolding deliver
  deliver-passed checks e = passed_on checks _ _ _ e

  pub deliver_failed : (checks : List Check) {number : ℕ} → first_refusal checks ≡ refusal number
      → outcome (refusal number) old ≡ deliver checks counts written old
  unfolding deliver
  deliver_failed checks e = sym (failed_on checks _ _ _ e)

  -- where the result fits, the checks give the answer
  pub deliver-answer : (checks : List Check) → result_fits written old ≡ true → (deliver checks counts written old).answer ≡ in_order checks refusal
      (gives counts)
  unfolding delivered
  deliver-answer checks e = go (first_refusal checks) refl
    where
      go : (found : Answer Unit) → first_refusal checks ≡ found → (deliver checks counts written old).answer ≡ in_order checks refusal (gives counts)
      go (gives u) passed =
          ap (λ (o : Outcome). o.answer) (deliver-passed checks passed ∙ deliver_fits e) ∙ sym (all-passed checks refusal (gives counts) passed)
      go (refusal number) failed = ap (λ (o : Outcome). o.answer) (sym (deliver_failed checks failed)) ∙ sym (one_failed checks refusal (gives counts) failed)

-- the same with the corners found
module _ (settings : Settings) (distances : List Float) (found : Found) (old : Result) where
  abbrev laid : List Cornered
  laid = map layout found.contours

  abbrev counts : Counts
  counts = counts_of laid found.stand_ins

  abbrev written : List ℕ → Result
  written values = painted settings.division (middle_value settings.marking) values laid

  -- the checks of the splines, which come last
  abbrev last : List Check
  last = check_marking settings.marking (spline_total laid) distances

  pub found_passed : (checks : List Check) → first_refusal checks ≡ all_pass
      → deliver_found checks settings distances found old ≡ deliver_found [] settings distances found old
  found_passed checks e = deliver_on counts (written (spline_values settings.marking distances laid)) old checks last e

  pub found_failed : (checks : List Check) {number : ℕ} → first_refusal checks ≡ refusal number
      → outcome (refusal number) old ≡ deliver_found checks settings distances found old
  found_failed checks e = deliver_failed counts (written (spline_values settings.marking distances laid)) old (checks ++ last) (refused-first checks last e)

  pub values-passed : {values : List ℕ} → first_refusal last ≡ all_pass → values ≡ spline_values settings.marking distances laid
      → deliver_values [] settings values laid found.stand_ins old ≡ deliver_found [] settings distances found old
  values-passed {values} e values-are = rw (← values-are) (sym (deliver-passed counts (written values) old last e))

  pub values_failed : {number : ℕ} → first_refusal last ≡ refusal number → outcome (refusal number) old ≡ deliver_found [] settings distances found old
  values_failed e = deliver_failed counts (written (spline_values settings.marking distances laid)) old last e
