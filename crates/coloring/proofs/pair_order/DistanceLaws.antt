-- Distances that are finite and not below zero are ordered as fractions: `lt` is asymmetric, and "not below" is
-- transitive.
use mathlib.Core.Path.{◌≡◌, refl, sym, ◌∙◌}
use mathlib.Core.Bool.{true, false, ◌&&◌, false≢true}
use Prim.Native.Nat.{ℕ, ◌*◌, ◌<◌, ◌≤◌}
use native.Mathlib.Nat.{le_of_lt, zero-add, zero-mul, mul-pos, pos_of_ne-zero}
use native.Mathlib.Decide.{ℕ_discrete}
use native.Mathlib.Omega.{arith}
use lib.Dec.{ltb, eqb}
use lib.IntN.{ℤ}
use lib.Ieee.{Float, nan, inf, fin, is_nan, up, down, lt, le, eq, of_bits}
use lib.Ieee.Fits.{up_pos}
use lib.Ieee.Positive.{num, den, den_pos, through}
use borrow.Author.Tests.{ltb-true, ltb-false, le-ltb, eqb-true}
use Rattle.coloring.specs.PairOrder.{valid_distance}
use Rattle.coloring.specs.Bools.{and_left}

-- ---- one distance

-- a number whose sign is set only at zero
Plain : Float → Type 0
Plain nan = ⊥
Plain (inf s) = ⊥
Plain (fin false m e) = Unit {0}
Plain (fin true m e) = m ≡ 0

-- -x is not below zero where x is zero
no_size : (m : ℕ) (e : ℤ) → 0 ≡ m * up e * 1 → m ≡ 0
no_size m e h = elim (ℕ_discrete m 0) [ yes z ↦ z | no z ↦ absurd (let p = mul-pos (pos_of_ne-zero z) (up_pos e) in omega arith) ]

valid_plain : (d : Float) → valid_distance d ≡ true → Plain d
unfolding valid_distance le lt eq of_bits Plain
valid_plain nan h = false≢true h
valid_plain (inf true) h = false≢true h
valid_plain (inf false) h = false≢true h
valid_plain (fin false m e) h = tt
valid_plain (fin true m e) h =
    let same = eqb (0 * down e) (m * up e * 1) in
    let level = and_left (same && eqb (0 * down e) 0) true h in
    no_size m e (sym (zero-mul (down e)) ∙ eqb-true (0 * down e) (m * up e * 1) (and_left same (eqb (0 * down e) 0) level))

-- ---- two distances

lt-cross : (x y : Float) → Plain x → Plain y → lt x y ≡ ltb (num x * den y) (num y * den x)
unfolding Plain lt
lt-cross nan y p q = absurd p
lt-cross (inf s) y p q = absurd p
lt-cross (fin s m e) nan p q = absurd q
lt-cross (fin s m e) (inf t) p q = absurd q
lt-cross (fin false m e) (fin false n d) p q = refl
lt-cross (fin false m e) (fin true n d) p q = sym (le-ltb (m * up e * down d) (n * up d * down e) (rw (q, zero-mul, zero-mul) (omega arith)))
lt-cross (fin true m e) (fin false n d) p q = rw (p, zero-mul, zero-mul, zero-add)
lt-cross (fin true m e) (fin true n d) p q = rw (p, q) (simp zero-mul)

module _ (x y : Float) (p : valid_distance x ≡ true) (q : valid_distance y ≡ true) where
  cross : lt x y ≡ ltb (num x * den y) (num y * den x)
  cross = lt-cross x y (valid_plain x p) (valid_plain y q)

  below : lt x y ≡ true → num x * den y < num y * den x
  below e = ltb-true _ _ (sym cross ∙ e)

  not_below : lt x y ≡ false → num y * den x ≤ num x * den y
  not_below e = ltb-false _ _ (sym cross ∙ e)

pub lt_asym : (x y : Float) → valid_distance x ≡ true → valid_distance y ≡ true → lt x y ≡ true → lt y x ≡ false
lt_asym x y p q e = cross y x q p ∙ le-ltb (num y * den x) (num x * den y) (le_of_lt (below x y p q e))

pub not_lt_trans : (x y z : Float) → valid_distance x ≡ true → valid_distance y ≡ true → valid_distance z ≡ true
    → lt y x ≡ false → lt z y ≡ false → lt z x ≡ false
not_lt_trans x y z p q r e f =
    cross z x r p ∙ le-ltb _ _ (through (num x) (num y) (num z) (den x) (den y) (den z) (den_pos y) (not_below y x q p e) (not_below z y r q f))

-- it is a number
pub valid_number : (d : Float) → valid_distance d ≡ true → is_nan d ≡ false
unfolding valid_distance le lt eq of_bits is_nan
valid_number nan h = cc
valid_number (inf s) h = refl
valid_number (fin s m e) h = refl
