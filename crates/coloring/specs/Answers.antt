-- Answers in numbers (SCOPE, Refusals): a value, or the number of a refusal; and checks in an order, each with its
-- number. Every entry's promise is made of these.
use Rattle.std.specs.Prelude.{ℕ, ◌≡◌, refl, Bool, true, false, Result, Ok, Err}
use Rattle.std.proofs.Common.{sym, ◌∙◌, arith}
use mathlib.Core.List.{List, [], ◌∷◌, ◌++◌, append-nil}
use Rattle.coloring.specs.Refusal.{refusal_number}
use Rattle.coloring.specs.declared.refusal.Refusal.{Refusal}

pub data Answer (A : Type 0) : Type 0 where
  gives : A → Answer A
  refusal : ℕ → Answer A

-- whether it is a value
abbrev pub succeeds : {A : Type 0} → Answer A → Bool
succeeds (gives a) = true
succeeds (refusal number) = false

-- ---- checks

-- a refusal's number, and the test that keeps it away
pub record Check : Type 0 where
  pub number : ℕ
  pub passes : Bool

abbrev pub unless : ℕ → Bool → Check
unless number passes = record { number = number; passes = passes }

-- what follows where every test passes, else what the number of the first that fails comes to
unfoldable pub in_order : {A : Type 0} → List Check → (ℕ → A) → A → A
in_order [] refuse result = result
in_order (c ∷ checks) refuse result = elim c.passes [ true ↦ in_order checks refuse result | false ↦ refuse c.number ]

-- the answer of checks alone: the number of the first that fails, or no value
abbrev pub all_pass : Answer Unit
all_pass = gives tt

unfoldable pub first_refusal : List Check → Answer Unit
unfolding in_order
first_refusal checks = in_order checks refusal all_pass

-- what the code's checks find, as an answer
abbrev pub checked_answer : Result Unit Refusal → Answer Unit
checked_answer (Ok _) = all_pass
checked_answer (Err r) = refusal (refusal_number r)

-- ---- laws

-- where checks pass, those after them decide
pub passed_on : {A : Type 0} (checks more : List Check) (refuse : ℕ → A) (result : A) → first_refusal checks ≡ all_pass
    → in_order (checks ++ more) refuse result ≡ in_order more refuse result
unfolding first_refusal in_order
passed_on [] more refuse result e = refl
passed_on (c ∷ checks) more refuse result e = go c.passes (passed_on checks more refuse result) e
  where
    go : (b : Bool) → (first_refusal checks ≡ all_pass → in_order (checks ++ more) refuse result ≡ in_order more refuse result)
        → elim b [ true ↦ first_refusal checks | false ↦ refusal c.number ] ≡ all_pass
        → elim b [ true ↦ in_order (checks ++ more) refuse result | false ↦ refuse c.number ] ≡ in_order more refuse result
    go true rest e = rest e
    go false rest e = cc

-- where one fails, its number does
pub failed_on : {A : Type 0} (checks more : List Check) (refuse : ℕ → A) (result : A) {number : ℕ} → first_refusal checks ≡ refusal number
    → in_order (checks ++ more) refuse result ≡ refuse number
unfolding first_refusal in_order
failed_on [] more refuse result e = cc
failed_on (c ∷ checks) more refuse result {number} e = go c.passes (failed_on checks more refuse result) e
  where
    go : (b : Bool) → (first_refusal checks ≡ refusal number → in_order (checks ++ more) refuse result ≡ refuse number)
        → ◌≡◌ {A = Answer Unit} (elim b [ true ↦ first_refusal checks | false ↦ refusal c.number ]) (refusal number)
        → elim b [ true ↦ in_order (checks ++ more) refuse result | false ↦ refuse c.number ] ≡ refuse number
    go true rest e = rest e
    go false rest e = cc

-- the same with no checks after them
module _ {A : Type 0} (checks : List Check) (refuse : ℕ → A) (result : A) where
  pub all-passed : first_refusal checks ≡ all_pass → in_order checks refuse result ≡ result
  unfolding in_order
  all-passed e = rw append-nil at (passed_on checks [] refuse result e)

  pub one_failed : {number : ℕ} → first_refusal checks ≡ refusal number → in_order checks refuse result ≡ refuse number
  one_failed e = rw append-nil at (failed_on checks [] refuse result e)

  -- so what holds in both cases holds
  pub either_way : (P : A → Type 0) → (first_refusal checks ≡ all_pass → P result) → ((number : ℕ) → first_refusal checks ≡ refusal number → P (refuse number))
      → P (in_order checks refuse result)
  either_way P passes fails = go (first_refusal checks) refl
    where
      go : (answer : Answer Unit) → first_refusal checks ≡ answer → P (in_order checks refuse result)
      go (gives u) e = rw (all-passed e) (passes e)
      go (refusal number) e = rw (one_failed e) (fails number e)

pub refused-first : (checks more : List Check) {number : ℕ} → first_refusal checks ≡ refusal number → first_refusal (checks ++ more) ≡ refusal number
unfolding first_refusal
refused-first checks more e = failed_on checks more refusal all_pass e

-- where all pass, those before do
pub passed_first : (checks more : List Check) → first_refusal (checks ++ more) ≡ all_pass → first_refusal checks ≡ all_pass
passed_first checks more e = go (first_refusal checks) refl
  where
    go : (answer : Answer Unit) → first_refusal checks ≡ answer → first_refusal checks ≡ all_pass
    go (gives u) found = found
    go (refusal number) found =
        let other : refusal number ≡ all_pass = sym (refused-first checks more found) ∙ e in
        let no : ◌≡◌ {A = ℕ} 0 1 = cc in absurd (omega arith)

-- and the first and the rest
pub passed_both : (number : ℕ) (b : Bool) (checks : List Check) → first_refusal (unless number b ∷ checks) ≡ all_pass
    → (b ≡ true) × (first_refusal checks ≡ all_pass)
unfolding first_refusal in_order
passed_both number true checks e = (refl, e)
passed_both number false checks e = (cc, cc)

-- a part of what follows is what follows by that part
pub in_order_part : {A B : Type 0} (part : A → B) (checks : List Check) (refuse : ℕ → A) (result : A)
    → part (in_order checks refuse result) ≡ in_order checks (λ number. part (refuse number)) (part result)
unfolding in_order
in_order_part part [] refuse result = refl
in_order_part part (c ∷ checks) refuse result = go c.passes (in_order_part part checks refuse result)
  where
    go : (b : Bool) → part (in_order checks refuse result) ≡ in_order checks (λ number. part (refuse number)) (part result)
        → part (elim b [ true ↦ in_order checks refuse result | false ↦ refuse c.number ])
        ≡ elim b [ true ↦ in_order checks (λ number. part (refuse number)) (part result) | false ↦ part (refuse c.number) ]
    go true rest = rest
    go false rest = refl
