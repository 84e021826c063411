-- The whole-number rule of `symmetrical_trichotomy` is the source's expression
--     (3.0 + 2.875 * position / (n - 1) - 1.4375 + 0.5) rounded down, less 3
-- taken in exact fractions, for every n from 3 on and every place below n. Over the one denominator 16 (n - 1) its
-- terms are 48 (n - 1), 46 p, 23 (n - 1) and 8 (n - 1), so the whole is (46 p + 33 (n - 1)) / (16 (n - 1)). Where n - 1
-- is a multiple of 46 the rule has one more place of 1 than of -1: 16 and 15 at n = 47.
use Prim.Native.Nat.{ℕ, ◌+◌, ◌-◌, ◌*◌, ◌/◌, ◌≤◌, ◌<◌}
use mathlib.Core.Bool.{Bool, true, false}
use mathlib.Core.Path.{◌≡◌, refl, ap, ◌∙◌}
use native.Mathlib.Omega.{arith}
use lib.Arith.{digits_div}
use lib.Dec.{ltb}
use lib.IntN.{pos, ◌+ℤ◌}
use borrow.Author.Tests.{ltb-true, ltb-false}
use Rattle.coloring.specs.Trichotomy.{symmetrical_trichotomy}

-- the source's terms, in its order, over 16 (n - 1)
pub one_denominator : (p n : ℕ) → 48 * (n - 1) + 46 * p - 23 * (n - 1) + 8 * (n - 1) ≡ 46 * p + 33 * (n - 1)
one_denominator p n = omega arith

-- x by 16 g is q, where x is q times 16 g and less than 16 g more
quotient : (q x g : ℕ) → q * (16 * g) ≤ x → x < q * (16 * g) + 16 * g → x / (16 * g) ≡ q
quotient q x g low high =
    ap (λ (y : ℕ). y / (16 * g)) (omega arith) ∙ digits_div q {m = 16 * g} {r = x - q * (16 * g)} (omega arith)

pub trichotomy_exact : (n p : ℕ) → 3 ≤ n → p < n → symmetrical_trichotomy p n +ℤ pos 3 ≡ pos ((46 * p + 33 * (n - 1)) / (16 * (n - 1)))
unfolding symmetrical_trichotomy
trichotomy_exact n p h l = by_tests (ltb (46 * p) (15 * (n - 1))) refl (ltb (46 * p) (31 * (n - 1))) refl
  where
    by_tests : (a : Bool) → ltb (46 * p) (15 * (n - 1)) ≡ a → (b : Bool) → ltb (46 * p) (31 * (n - 1)) ≡ b
        → symmetrical_trichotomy p n +ℤ pos 3 ≡ pos ((46 * p + 33 * (n - 1)) / (16 * (n - 1)))
    by_tests true e b f =
        let below : 46 * p < 15 * (n - 1) = ltb-true (46 * p) (15 * (n - 1)) e in
        rw (e, quotient 2 (46 * p + 33 * (n - 1)) (n - 1) (omega arith) (omega arith))
    by_tests false e true f =
        let above : 15 * (n - 1) ≤ 46 * p = ltb-false (46 * p) (15 * (n - 1)) e in
        let below : 46 * p < 31 * (n - 1) = ltb-true (46 * p) (31 * (n - 1)) f in
        rw (e, f, quotient 3 (46 * p + 33 * (n - 1)) (n - 1) (omega arith) (omega arith))
    by_tests false e false f =
        let above : 31 * (n - 1) ≤ 46 * p = ltb-false (46 * p) (31 * (n - 1)) f in
        rw (e, f, quotient 4 (46 * p + 33 * (n - 1)) (n - 1) (omega arith) (omega arith))
