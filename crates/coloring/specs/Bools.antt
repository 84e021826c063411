-- Truth values: a conjunction and a disjunction taken apart, cases by a test, a branch on a test that is known, and
-- equality of two tests.
use Rattle.std.specs.Prelude.{◌≡◌, refl, Bool, true, false, ◌&&◌, ◌||◌}
use Rattle.std.proofs.Common.{sym, true≢false}
use Rattle.std.proofs.lemmas.Bool.{false≢true}

pub and_left : (x y : Bool) → (x && y) ≡ true → x ≡ true
and_left true y e = refl
and_left false y e = absurd (false≢true e)

pub and_right : (x y : Bool) → (x && y) ≡ true → y ≡ true
and_right true y e = e
and_right false y e = absurd (false≢true e)

pub neither : (x y : Bool) → (x || y) ≡ false → (x ≡ false) × (y ≡ false)
neither true y e = absurd (true≢false e)
neither false y e = (refl, e)

pub split : {A : Type 0} (x : Bool) → (x ≡ true → A) → (x ≡ false → A) → A
split true passes fails = passes refl
split false passes fails = fails refl

pub branch_true : {A : Type 0} (x : Bool) (a b : A) → x ≡ true → elim x [ true ↦ a | false ↦ b ] ≡ a
branch_true x a b e = rw e

pub branch_false : {A : Type 0} (x : Bool) (a b : A) → x ≡ false → elim x [ true ↦ a | false ↦ b ] ≡ b
branch_false x a b e = rw e

-- two tests that pass alike
pub same_truth : (x y : Bool) → (x ≡ true → y ≡ true) → (y ≡ true → x ≡ true) → x ≡ y
same_truth true y there back = sym (there refl)
same_truth false true there back = back refl
same_truth false false there back = refl
