-- Splines and distances that pass the checks are those that are coloured; what an entry answers and writes, by what
-- its checks find.
use mathlib.Core.Path.{◌≡◌, refl, sym, ap, ◌∙◌}
use mathlib.Core.Bool.{◌&&◌}
use mathlib.Core.List.{List}
use Prim.Native.Nat.{ℕ}
use lib.Dec.{leb}
use lib.Ieee.{Float}
use lib.ListN.{length}
use borrow.Author.Tests.{leb-true, eqb-true}
use Rattle.std.proofs.Common.{Result, Ok}
use Rattle.coloring.specs.declared.refusal.Refusal.{Refusal}
use Rattle.coloring.specs.Answers.{Answer, all_pass, refusal, Check, checked_answer, first_refusal}
use Rattle.coloring.specs.Answers.{passed_both, all-passed, one_failed, in_order_part}
use Rattle.coloring.specs.Bools.{and_left}
use Rattle.coloring.specs.PairOrder.{ValidDistances}
use Rattle.coloring.specs.SplineColors.{color_splines, check_splines, SplinesColored, splines_colored, color_splines_into}

pub check-passed : (n : ℕ) (distances : List Float) → first_refusal (check_splines n distances) ≡ all_pass → ValidDistances n distances
check-passed n distances e =
    let few = passed_both 4 (leb n 64 && leb (length distances) 2016) _ e in
    let count = passed_both 8 _ _ few.1 in
    record { few = leb-true n 64 (and_left (leb n 64) _ few.0); count = eqb-true _ _ count.0; valid = (passed_both 9 _ _ count.1).0 }

-- what `color_splines` answers and writes, by what its checks find
module _ (distances : List Float) (seed : ℕ) (old : List ℕ) where
  abbrev checks : List Check
  checks = check_splines (length old) distances

  abbrev refused : ℕ → SplinesColored
  refused number = splines_colored (refusal number) old

  abbrev colored : SplinesColored
  colored = splines_colored all_pass (color_splines (length old) distances seed)

  pub splines-refused : {answer : Answer Unit} {number : ℕ} → answer ≡ refusal number → answer ≡ first_refusal checks
      → splines_colored answer old ≡ color_splines_into distances seed old
  unfolding color_splines_into
  splines-refused is e = rw is (sym (one_failed checks refused colored (sym e ∙ is)))

  pub splines-passed : {answer : Answer Unit} {coloring : List ℕ} → answer ≡ all_pass → answer ≡ first_refusal checks
      → coloring ≡ color_splines (length old) distances seed → splines_colored answer coloring ≡ color_splines_into distances seed old
  unfolding color_splines_into
  splines-passed is e colors = rw (is, colors) (sym (all-passed checks refused colored (sym e ∙ is)))

  -- and what these tell
  pub splines_answered : (r : Result Unit Refusal) (coloring : List ℕ) → splines_colored (checked_answer r) coloring ≡ color_splines_into distances seed old
      → (checked_answer r ≡ first_refusal checks) × (r ≡ Ok tt → coloring ≡ color_splines (length old) distances seed)
  unfolding color_splines_into first_refusal
  splines_answered r coloring e =
      let answer_in : SplinesColored → Answer Unit = λ s. s.answer in
      let answer : checked_answer r ≡ first_refusal checks = ap answer_in e ∙ in_order_part answer_in checks refused colored in
      (answer, λ p. ap (λ (s : SplinesColored). s.coloring) (e ∙ sym (splines-passed (ap checked_answer p) answer refl)))
