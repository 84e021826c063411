-- What the tests of bit patterns mean of the floats: a threshold lies from −1 to 1, a coordinate from −1,048,576 to
-- 1,048,576, and a distance is finite and not below zero.
use mathlib.Core.Path.{◌≡◌, refl, sym, ap, ◌∙◌}
use mathlib.Core.Bool.{Bool, true, false, cond, ◌&&◌, ◌||◌}
use Prim.Native.Nat.{ℕ, zero, suc, ◌+◌, ◌*◌, ◌/◌, ◌%◌, ◌^◌, ◌<◌, ◌≤◌}
use native.Mathlib.Omega.{arith}
use native.Mathlib.Nat.{mul-le-mul_left, mul-le-mul_right, mul-lt-mul_of_pos_left, mul-lt-mul_of_pos_right, mul-one, one-mul, zero-mul, le_refl}
use native.Mathlib.Nat.{mul-pos, lt_of_lt_of_le, lt_irrefl}
use lib.Dec.{leb, ltb, eqb, eqb-zero-suc, eqb-suc-zero}
use lib.Pow.{pow-add, pow_mono, pow-lt, pow_pos}
use lib.IntN.{ℤ, pos}
use lib.Ieee as Ieee
use lib.Ieee.{Float, nan, inf, fin, binary64, low, up, down, of_fields, of_bits}
use lib.Ieee.Exact.{HasValue, odd_sign}
use lib.Ieee.Fits.{down_pos}
use lib.Ieee.Order.{transfer}
use Rattle.job.specs.Patterns.{is_threshold, is_coordinate, is_distance}
use borrow.Author.Tests.{lt-ltb, le-ltb, le-leb, lt-leb, eq-eqb, ne_eqb, leb-true, leb-false, ltb-true, ltb-false, eqb-true, eqb-false}

-- the size of a finite pattern with the exponent field x and the digits t, in units of the smallest number
abbrev units_of : ℕ → ℕ → ℕ
units_of zero t = t * 2 ^ 0
units_of (suc x) t = (2 ^ 52 + t) * 2 ^ x

field_value : (s : Bool) (x t : ℕ) → x < 2047 → HasValue (of_fields binary64 s x t) s (units_of x t) (2 ^ 1074)
unfolding of_fields
field_value s zero t h = odd_sign 53 s t 0 1074
field_value s (suc x) t h = rw (ne_eqb (suc x) 2047 (λ e. omega arith)) (odd_sign 53 s (2 ^ 52 + t) x 1074)

-- ---- a power of two, by its units and by its pattern

power : (k : ℕ) → 2 ^ k * 2 ^ 1074 ≡ 2 ^ 52 * 2 ^ (k + 1022)
power k =
    let e : k + 1074 ≡ 52 + (k + 1022) = omega arith in
    sym (pow-add 2 k 1074) ∙ rw e (pow-add 2 52 (k + 1022))

units-below : (x t k : ℕ) → t < 2 ^ 52 → x * 2 ^ 52 + t ≤ (1023 + k) * 2 ^ 52 → units_of x t ≤ 2 ^ k * 2 ^ 1074
units-below zero t k h m = rw (power k) (omega (arith, mul-le-mul_left (2 ^ 52) (pow_pos (k + 1022))))
units-below (suc y) t k h m = rw (power k) (go (leb (suc y) (k + 1022)) refl)
  where
    go : (b : Bool) → leb (suc y) (k + 1022) ≡ b → (2 ^ 52 + t) * 2 ^ y ≤ 2 ^ 52 * 2 ^ (k + 1022)
    go true e =
        let one : (2 ^ 52 + t) * 2 ^ y ≤ 2 ^ 53 * 2 ^ y = mul-le-mul_right (2 ^ y) (omega arith) in
        let two : 2 ^ 52 * 2 ^ suc y ≤ 2 ^ 52 * 2 ^ (k + 1022) = mul-le-mul_left (2 ^ 52)
        (pow_mono {i = suc y} {j = k + 1022} (leb-true (suc y) (k + 1022) e)) in
        let s : suc y ≡ 1 + y = omega arith in
        let three : 2 ^ suc y ≡ 2 * 2 ^ y = rw s (pow-add 2 1 y) in
        omega (arith, one, two, three)
    go false e =
        let high = leb-false (suc y) (k + 1022) e in
        let at : y ≡ k + 1022 = omega arith in
        let none : t ≡ 0 = omega arith in
        rw (at, none) (omega arith)

units_above : (x t k : ℕ) → t < 2 ^ 52 → (1023 + k) * 2 ^ 52 < x * 2 ^ 52 + t → 2 ^ k * 2 ^ 1074 < units_of x t
units_above zero t k h m = absurd (omega arith)
units_above (suc y) t k h m = rw (power k) (go (leb (k + 1023) y) refl)
  where
    go : (b : Bool) → leb (k + 1023) y ≡ b → 2 ^ 52 * 2 ^ (k + 1022) < (2 ^ 52 + t) * 2 ^ y
    go true e =
        let one : 2 ^ 52 * 2 ^ (k + 1022) < 2 ^ 52 * 2 ^ (k + 1023) = mul-lt-mul_of_pos_left (pow-lt {i = k + 1022} {j = k + 1023} (omega arith))
        (omega arith) in
        let two : 2 ^ 52 * 2 ^ (k + 1023) ≤ 2 ^ 52 * 2 ^ y = mul-le-mul_left (2 ^ 52) (pow_mono {i = k + 1023} {j = y} (leb-true (k + 1023) y e)) in
        let three : 2 ^ 52 * 2 ^ y ≤ (2 ^ 52 + t) * 2 ^ y = mul-le-mul_right (2 ^ y) (omega arith) in
        omega (arith, one, two, three)
    go false e =
        let low-y = leb-false (k + 1023) y e in
        let at : y ≡ k + 1022 = omega arith in
        rw at (mul-lt-mul_of_pos_right (omega arith) (pow_pos (k + 1022)))

-- ---- a number within a limit

or_le : (a b : ℕ) → a ≤ b → ((ltb a b || (eqb a b && true)) ≡ true) × ((ltb a b || (eqb b a && true)) ≡ true)
or_le a b h = go (ltb a b) refl
  where
    go : (t : Bool) → ltb a b ≡ t → ((ltb a b || (eqb a b && true)) ≡ true) × ((ltb a b || (eqb b a && true)) ≡ true)
    go true e = (rw e, rw e)
    go false e = let same : a ≡ b = omega (arith, ltb-false a b e) in (rw (e, eq-eqb a b same), rw (e, eq-eqb b a (sym same)))

or_gt : (a b : ℕ) → b < a → ((ltb a b || (eqb a b && true)) ≡ false) × ((ltb a b || (eqb b a && true)) ≡ false)
or_gt a b h = (rw (le-ltb a b (omega arith), ne_eqb a b (λ e. omega arith)), rw (le-ltb a b (omega arith), ne_eqb b a (λ e. omega arith)))

and_true : (b : Bool) → (b && true) ≡ b
and_true true = refl
and_true false = refl

-- the value of x against the limit 2 ^ k, as comparisons multiply it out
module _ (k m u : ℕ) (e : ℤ) (v : m * up e * 2 ^ 1074 ≡ u * down e) where
  small : u ≤ 2 ^ k * 2 ^ 1074 → m * up e * 1 ≤ 1 * 2 ^ k * down e
  small h = rw (one-mul (2 ^ k)) (transfer (m * up e) (2 ^ k) (down e) 1 u (2 ^ k) (2 ^ 1074) 1 (pow_pos 1074) (omega arith) v refl (rw (mul-one u) h))

  large : 2 ^ k * 2 ^ 1074 < u → 1 * 2 ^ k * down e < m * up e * 1
  large h = go (leb (m * up e * 1) (1 * 2 ^ k * down e)) refl
    where
      go : (b : Bool) → leb (m * up e * 1) (1 * 2 ^ k * down e) ≡ b → 1 * 2 ^ k * down e < m * up e * 1
      go true f =
          let less = leb-true (m * up e * 1) (1 * 2 ^ k * down e) f in
          let no : u * 1 ≤ 2 ^ k * 2 ^ 1074 = transfer u (2 ^ k) (2 ^ 1074) 1 (m * up e) (2 ^ k) (down e) 1 (down_pos e) (omega arith) (sym v) refl
          (rw (one-mul (2 ^ k)) at less) in
          absurd (lt_irrefl _ (lt_of_lt_of_le h (rw (mul-one u) at no)))
      go false f = leb-false (m * up e * 1) (1 * 2 ^ k * down e) f

  positive : 0 < 1 * 2 ^ k * down e
  positive = mul-pos (rw (one-mul (2 ^ k)) (pow_pos k)) (down_pos e)

  abbrev limit : Float
  limit = fin false 1 (pos k)

  above_below : Ieee.le (Ieee.neg limit) (fin false m e) ≡ true
  unfolding Ieee.le Ieee.neg
  above_below = rw (lt-ltb 0 (1 * 2 ^ k * down e + m * up e * 1) (omega (arith, positive)))

  below_above : Ieee.le (fin true m e) limit ≡ true
  unfolding Ieee.le
  below_above = rw (lt-ltb 0 (m * up e * 1 + 1 * 2 ^ k * down e) (omega (arith, positive)))

  to_limit : Ieee.le (fin false m e) limit ≡ leb u (2 ^ k * 2 ^ 1074)
  unfolding Ieee.le
  to_limit = go (leb u (2 ^ k * 2 ^ 1074)) refl
    where
      go : (t : Bool) → leb u (2 ^ k * 2 ^ 1074) ≡ t → Ieee.le (fin false m e) limit ≡ leb u (2 ^ k * 2 ^ 1074)
      go true f = (or_le (m * up e * 1) (1 * 2 ^ k * down e) (small (leb-true u (2 ^ k * 2 ^ 1074) f))).0 ∙ sym f
      go false f = (or_gt (m * up e * 1) (1 * 2 ^ k * down e) (large (leb-false u (2 ^ k * 2 ^ 1074) f))).0 ∙ sym f

  from-limit : Ieee.le (Ieee.neg limit) (fin true m e) ≡ leb u (2 ^ k * 2 ^ 1074)
  unfolding Ieee.le Ieee.neg
  from-limit = go (leb u (2 ^ k * 2 ^ 1074)) refl
    where
      go : (t : Bool) → leb u (2 ^ k * 2 ^ 1074) ≡ t → Ieee.le (Ieee.neg limit) (fin true m e) ≡ leb u (2 ^ k * 2 ^ 1074)
      go true f = (or_le (m * up e * 1) (1 * 2 ^ k * down e) (small (leb-true u (2 ^ k * 2 ^ 1074) f))).1 ∙ sym f
      go false f = (or_gt (m * up e * 1) (1 * 2 ^ k * down e) (large (leb-false u (2 ^ k * 2 ^ 1074) f))).1 ∙ sym f

  within-limit : (s : Bool) → (Ieee.le (Ieee.neg limit) (fin s m e) && Ieee.le (fin s m e) limit) ≡ leb u (2 ^ k * 2 ^ 1074)
  within-limit false = rw above_below to_limit
  within-limit true = rw (below_above, from-limit) (and_true (leb u (2 ^ k * 2 ^ 1074)))

-- ---- patterns

-- between −2 ^ k and 2 ^ k
abbrev pub Within : ℕ → Float → Bool
Within k x = Ieee.le (Ieee.neg (fin false 1 (pos k))) x && Ieee.le x (fin false 1 (pos k))

value_within : (k : ℕ) (x : Float) (s : Bool) (u : ℕ) → HasValue x s u (2 ^ 1074) → Within k x ≡ leb u (2 ^ k * 2 ^ 1074)
value_within k nan s u h = absurd h
value_within k (inf t) s u h = absurd h
value_within k (fin t m e) s u h = within-limit k m u e h.1 t

no_number : (k : ℕ) (s : Bool) (t : ℕ) → Within k (of_fields binary64 s 2047 t) ≡ false
unfolding of_fields Ieee.le Ieee.neg
no_number k s t = go s (eqb t 0)
  where
    go : (s b : Bool) → Within k (cond b (inf s) nan) ≡ false
    go true true = refl
    go false true = refl
    go true false = refl
    go false false = refl

-- a finite pattern, by its fields
fields_within : (k x t : ℕ) → t < 2 ^ 52 → leb (x * 2 ^ 52 + t) ((1023 + k) * 2 ^ 52) ≡ leb (units_of x t) (2 ^ k * 2 ^ 1074)
fields_within k x t h = go (leb (x * 2 ^ 52 + t) ((1023 + k) * 2 ^ 52)) refl
  where
    go : (b : Bool) → leb (x * 2 ^ 52 + t) ((1023 + k) * 2 ^ 52) ≡ b → leb (x * 2 ^ 52 + t) ((1023 + k) * 2 ^ 52) ≡ leb (units_of x t) (2 ^ k * 2 ^ 1074)
    go true e = e ∙ sym (le-leb (units_of x t) (2 ^ k * 2 ^ 1074) (units-below x t k h (leb-true (x * 2 ^ 52 + t) ((1023 + k) * 2 ^ 52) e)))
    go false e = e ∙ sym (lt-leb (units_of x t) (2 ^ k * 2 ^ 1074) (units_above x t k h (leb-false (x * 2 ^ 52 + t) ((1023 + k) * 2 ^ 52) e)))

pattern_within : (k b : ℕ) → k ≤ 1000 → leb (b % 9223372036854775808) ((1023 + k) * 2 ^ 52) ≡ Within k (of_bits binary64 b)
unfolding of_bits
pattern_within k b few = go (leb 2047 x) refl
  where
    x : ℕ
    x = b % 9223372036854775808 / 4503599627370496

    t : ℕ
    t = b % 4503599627370496

    s : Bool
    s = leb 9223372036854775808 b

    fields : b % 9223372036854775808 ≡ x * 2 ^ 52 + t
    fields = omega arith

    go : (c : Bool) → leb 2047 x ≡ c → leb (b % 9223372036854775808) ((1023 + k) * 2 ^ 52) ≡ Within k (of_fields binary64 s x t)
    go true e =
        let full : x ≡ 2047 = omega (arith, leb-true 2047 x e) in
        lt-leb (b % 9223372036854775808) ((1023 + k) * 2 ^ 52) (omega (arith, fields))
        ∙ sym (ap (λ (y : ℕ). Within k (of_fields binary64 s y t)) full ∙ no_number k s t)
    go false e =
        ap (λ (y : ℕ). leb y ((1023 + k) * 2 ^ 52)) fields
        ∙ fields_within k x t (omega arith)
        ∙ sym (value_within k (of_fields binary64 s x t) s (units_of x t) (field_value s x t (leb-false 2047 x e)))

-- −1 to 1, and −1,048,576 to 1,048,576
pub threshold_means : (b : ℕ) → is_threshold b ≡ Within 0 (of_bits binary64 b)
threshold_means b = pattern_within 0 b (omega arith)

pub coordinate_means : (b : ℕ) → is_coordinate b ≡ Within 20 (of_bits binary64 b)
coordinate_means b = pattern_within 20 b (omega arith)

-- ---- distances: finite and not below zero

abbrev pub zero_float : Float
zero_float = fin false 0 (pos 0)

abbrev pub NotBelow : Float → Bool
NotBelow x = Ieee.le zero_float x && Ieee.lt x (inf false)

units-zero : (x t : ℕ) → eqb (units_of x t) 0 ≡ eqb (x * 2 ^ 52 + t) 0
units-zero zero t = let e : t * 2 ^ 0 ≡ 0 * 2 ^ 52 + t = omega arith in ap (λ (n : ℕ). eqb n 0) e
units-zero (suc x) t =
    let some : 0 < (2 ^ 52 + t) * 2 ^ x = mul-pos (omega arith) (pow_pos x) in
    ne_eqb ((2 ^ 52 + t) * 2 ^ x) 0 (λ e. omega arith) ∙ sym (ne_eqb (suc x * 2 ^ 52 + t) 0 (λ e. omega arith))

none : (u : ℕ) → u * 1 ≤ 0 → u ≡ 0
none u h = omega arith

flip : (n : ℕ) → eqb 0 n ≡ eqb n 0
flip zero = refl
flip (suc n) = eqb-zero-suc n ∙ sym (eqb-suc-zero n)

-- a value against zero
module _ (m u : ℕ) (e : ℤ) (v : m * up e * 2 ^ 1074 ≡ u * down e) where
  zero_is : 0 * 1 * down e ≡ 0
  zero_is = zero-mul (down e)

  positive_not_below : NotBelow (fin false m e) ≡ true
  unfolding Ieee.le Ieee.lt
  positive_not_below = rw (or_le (0 * 1 * down e) (m * up e * 1) (rw zero_is (omega arith))).0

  same_zero : eqb (m * up e * 1) 0 ≡ eqb u 0
  same_zero = go (eqb u 0) refl
    where
      go : (t : Bool) → eqb u 0 ≡ t → eqb (m * up e * 1) 0 ≡ eqb u 0
      go true f =
          let at_most : m * up e * 1 ≤ 0 * down e = transfer (m * up e) 0 (down e) 1 u 0 (2 ^ 1074) 1 (pow_pos 1074) (omega arith) v refl
          (rw (eqb-true u 0 f) (le_refl 0)) in
          eq-eqb (m * up e * 1) 0 (omega (arith, zero-mul (down e))) ∙ sym f
      go false f =
          ne_eqb (m * up e * 1) 0
          (λ z.
          let at_most : u * 1 ≤ 0 = transfer u 0 (2 ^ 1074) 1 (m * up e) 0 (down e) 1 (down_pos e) (omega arith) (sym v) refl
          (rw (z, zero-mul (down e)) (omega arith)) in
          eqb-false u 0 f (none u at_most))
          ∙ sym f

  negative_not_below : NotBelow (fin true m e) ≡ eqb u 0
  unfolding Ieee.le Ieee.lt
  negative_not_below = rw (zero-mul (down e), flip (m * up e * 1), same_zero) (and_true (eqb u 0 && true) ∙ and_true (eqb u 0))

-- a value's sign and size decide
not_below : Bool → ℕ → Bool
not_below false u = true
not_below true u = eqb u 0

value_not_below : (x : Float) (s : Bool) (u : ℕ) → HasValue x s u (2 ^ 1074) → NotBelow x ≡ not_below s u
unfolding not_below
value_not_below nan s u h = absurd h
value_not_below (inf t) s u h = absurd h
value_not_below (fin true m e) true u h = negative_not_below m u e h.1
value_not_below (fin true m e) false u h = let z : ◌≡◌ {A = ℕ} 0 1 = cc in absurd (omega arith)
value_not_below (fin false m e) true u h = let z : ◌≡◌ {A = ℕ} 0 1 = cc in absurd (omega arith)
value_not_below (fin false m e) false u h = positive_not_below m u e h.1

no_distance : (s : Bool) (t : ℕ) → NotBelow (of_fields binary64 s 2047 t) ≡ false
unfolding of_fields Ieee.le Ieee.lt
no_distance s t = go s (eqb t 0)
  where
    go : (s b : Bool) → NotBelow (cond b (inf s) nan) ≡ false
    go true true = refl
    go false true = refl
    go true false = refl
    go false false = refl

shifted : (n : ℕ) → eqb (9223372036854775808 + n) 9223372036854775808 ≡ eqb n 0
shifted zero = refl
shifted (suc n) = ne_eqb (9223372036854775808 + suc n) 9223372036854775808 (λ e. omega arith) ∙ sym (eqb-suc-zero n)

-- a distance's pattern is one of 64 bits
pub distance-below : (b : ℕ) → is_distance b ≡ true → b < 2 ^ 64
distance-below b h = go (ltb b 9218868437227405312) refl h
  where
    go : (c : Bool) → ltb b 9218868437227405312 ≡ c → (c || eqb b 9223372036854775808) ≡ true → b < 2 ^ 64
    go true e k = omega (arith, ltb-true b 9218868437227405312 e)
    go false e k = omega (arith, eqb-true b 9223372036854775808 k)

pub distance_means : (b : ℕ) → b < 2 ^ 64 → is_distance b ≡ NotBelow (of_bits binary64 b)
unfolding of_bits not_below
distance_means b fits = go (leb 2047 x) refl (leb 9223372036854775808 b) refl
  where
    x : ℕ
    x = b % 9223372036854775808 / 4503599627370496

    t : ℕ
    t = b % 4503599627370496

    go : (c : Bool) → leb 2047 x ≡ c → (s : Bool) → leb 9223372036854775808 b ≡ s → is_distance b ≡ NotBelow (of_fields binary64 s x t)
    go true e s f =
        let full : x ≡ 2047 = omega (arith, leb-true 2047 x e) in
        rw (le-ltb b 9218868437227405312 (omega arith), ne_eqb b 9223372036854775808 (λ z. omega arith))
        (sym (ap (λ (y : ℕ). NotBelow (of_fields binary64 s y t)) full ∙ no_distance s t))
    go false e true f =
        let low = leb-false 2047 x e in
        let high = leb-true 9223372036854775808 b f in
        let fields : b ≡ 9223372036854775808 + (x * 2 ^ 52 + t) = omega arith in
        rw (le-ltb b 9218868437227405312 (omega arith))
        (ap (λ (n : ℕ). eqb n 9223372036854775808) fields ∙ shifted (x * 2 ^ 52 + t)
        ∙ sym (value_not_below (of_fields binary64 true x t) true (units_of x t) (field_value true x t low) ∙ units-zero x t))
    go false e false f =
        let low = leb-false 2047 x e in
        let high = leb-false 9223372036854775808 b f in
        rw (lt-ltb b 9218868437227405312 (omega arith)) (sym (value_not_below (of_fields binary64 false x t) false (units_of x t) (field_value false x t low)))
