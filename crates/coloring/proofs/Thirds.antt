-- What either rule says of a place: the first run and the last keep to their sides of the middle.
use Prim.Native.Nat.{ℕ, ◌-◌, ◌*◌, ◌/◌, ◌≤◌, ◌<◌}
use mathlib.Core.Bool.{Bool, true, false}
use mathlib.Core.Path.{◌≡◌, refl}
use native.Mathlib.Omega.{arith}
use lib.Dec.{ltb, leb}
use lib.IntN.{ℤ, pos, negsuc}
use borrow.Author.Tests.{ltb-true, ltb-false, leb-false, lt-ltb, le-ltb, le-leb}
use Rattle.coloring.specs.declared.settings.Division.{Division}
use Rattle.coloring.specs.declared.settings.Division.TheVariants.{Source, Balanced}
use Rattle.coloring.specs.Trichotomy.{symmetrical_trichotomy, balanced, third_by}

pub data Third (p n : ℕ) : ℤ → Type 0 where
  in_first : 46 * p < 15 * (n - 1) → Third p n (negsuc 0)
  in_middle : Third p n (pos 0)
  in_last : 15 * (n - 1) ≤ 46 * p → 31 * (n - 1) ≤ 46 * p → Third p n (pos 1)

pub third : (division : Division) (p n : ℕ) → Third p n (third_by division p n)
unfolding symmetrical_trichotomy balanced
third Source p n = by_tests (ltb (46 * p) (15 * (n - 1))) refl (ltb (46 * p) (31 * (n - 1))) refl
  where
    by_tests : (a : Bool) → ltb (46 * p) (15 * (n - 1)) ≡ a → (b : Bool) → ltb (46 * p) (31 * (n - 1)) ≡ b → Third p n (symmetrical_trichotomy p n)
    by_tests true e b f = rw e (in_first (ltb-true _ _ e))
    by_tests false e true f = rw (e, f) in_middle
    by_tests false e false f = rw (e, f) (in_last (ltb-false _ _ e) (ltb-false _ _ f))
third Balanced p n = by_tests (ltb (46 * p) (15 * (n - 1))) refl (leb (46 * p) (31 * (n - 1))) refl
  where
    by_tests : (a : Bool) → ltb (46 * p) (15 * (n - 1)) ≡ a → (b : Bool) → leb (46 * p) (31 * (n - 1)) ≡ b → Third p n (balanced p n)
    by_tests true e b f = rw e (in_first (ltb-true _ _ e))
    by_tests false e true f = rw (e, f) in_middle
    by_tests false e false f = let above : 31 * (n - 1) < 46 * p = leb-false (46 * p) (31 * (n - 1)) f in rw (e, f) (in_last (ltb-false _ _ e) (omega arith))

-- The source's collecting pass begins a teardrop's second spline at m / 2. That place is in the middle run, so that the
-- outer runs are the two splines.
pub break_in_the_middle : (division : Division) (m : ℕ) → 3 ≤ m → third_by division (m / 2) m ≡ pos 0
unfolding symmetrical_trichotomy balanced
break_in_the_middle Source m h =
    rw (le-ltb (46 * (m / 2)) (15 * (m - 1)) (omega arith), lt-ltb (46 * (m / 2)) (31 * (m - 1)) (omega arith))
break_in_the_middle Balanced m h =
    rw (le-ltb (46 * (m / 2)) (15 * (m - 1)) (omega arith), le-leb (46 * (m / 2)) (31 * (m - 1)) (omega arith))
