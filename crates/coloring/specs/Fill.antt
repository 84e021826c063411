-- A call that fills what it is given: how much it wrote, or the number of a refusal, and what it was given at exit.
use Rattle.std.specs.Prelude.{ℕ, ◌≤◌, ◌<◌, ◌≡◌, Bool, true, false, List, [], ◌∷◌, ◌++◌, leb, length}
use Rattle.std.proofs.Math.Path.{sym}
use Rattle.std.proofs.Common.{le-leb}
use Rattle.std.proofs.lemmas.Bool.{lt-leb}
use Rattle.coloring.specs.Answers.{Answer, gives, refusal, Check, unless, in_order, all_pass, first_refusal, passed_on, failed_on}
use Rattle.coloring.specs.Lists.{over}

pub record FillOutcome (B : Type 0) : Type 0 where
  pub answer : Answer ℕ
  pub buffer : B

abbrev pub fill_outcome : {B : Type 0} → Answer ℕ → B → FillOutcome B
fill_outcome answer buffer = record { answer = answer; buffer = buffer }

-- The first refusal of the checks, and 11 last, where what is to be written would not fit, and all is as it came; or a
-- count, and what is filled.
unfoldable pub fill_with : {B : Type 0} → List Check → ℕ → Bool → B → B → FillOutcome B
unfolding in_order
fill_with checks count fits filled old =
    in_order (checks ++ (unless 11 fits ∷ [])) (λ number. fill_outcome (refusal number) old) (fill_outcome (gives count) filled)

-- one buffer, with what is written over what stood there
unfoldable pub fill : {A : Type 0} → List Check → ℕ → List A → List A → FillOutcome (List A)
unfolding fill_with over
fill checks count written old = fill_with checks count (leb (length written) (length old)) (over written old) old

module _ {B : Type 0} (checks : List Check) (count : ℕ) (filled old : B) where
  pub with_failed : (fits : Bool) {number : ℕ} → first_refusal checks ≡ refusal number
      → fill_outcome (refusal number) old ≡ fill_with checks count fits filled old
  unfolding fill_with
  with_failed fits e = sym (failed_on checks _ _ _ e)

  pub with-short : {fits : Bool} → first_refusal checks ≡ all_pass → fits ≡ false → fill_outcome (refusal 11) old ≡ fill_with checks count fits filled old
  unfolding fill_with
  with-short e short = rw (passed_on checks _ _ _ e, short)

  pub with-room : {fits : Bool} → first_refusal checks ≡ all_pass → fits ≡ true → fill_outcome (gives count) filled ≡ fill_with checks count fits filled old
  unfolding fill_with
  with-room e room = rw (passed_on checks _ _ _ e, room)

module _ {A : Type 0} (checks : List Check) (count : ℕ) (written old : List A) where
  pub fill-short : first_refusal checks ≡ all_pass → length old < length written → fill_outcome (refusal 11) old ≡ fill checks count written old
  unfolding fill
  fill-short e h = with-short checks count (over written old) old e (lt-leb (length written) (length old) h)

  pub fill_fits : first_refusal checks ≡ all_pass → length written ≤ length old → fill_outcome (gives count) (over written old) ≡ fill checks count written old
  unfolding fill
  fill_fits e h = with-room checks count (over written old) old e (le-leb (length written) (length old) h)
