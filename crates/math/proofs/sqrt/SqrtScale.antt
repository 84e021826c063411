-- The scaling. A positive finite pattern b stands for significand b · 2 ^ (exponent b − 1126), and the significand has
-- its leading digit at place 52 (`normalised`). The number whose root is taken lies between 2 ^ 104 and 2 ^ 106
-- (`scaled_bounds`), and times a square it is what b stands for (`square_is`).
use Rattle.std.proofs.Common.{◌≡◌, ℕ, zero, suc, ◌+◌, ◌-◌, ◌*◌, ◌/◌, ◌%◌, ◌^◌, ◌<◌, ◌≤◌, sym, ap, ◌∙◌, ⊎_elim, lt_of_le_of_lt, lt_irrefl, mul-le-mul_right}
use Rattle.std.proofs.Common.{mul_assoc, mul-lt-mul_of_pos_right, pow-suc, lt_of_not-le, arith, pow_pos, pow_mono, pow-add}
use lib.Count.{count_leading_zeros, leading_top}
use Rattle.math.specs.Sqrt.{shift, significand, exponent, scaled, infinity_pattern}
use Rattle.math.proofs.sqrt.SqrtOpen.{shift_is, significand-low, significand_high, exponent-low, exponent_high, scaled_is}
use Rattle.math.proofs.sqrt.SqrtUnits.{units, units-low, units_high, le_or_lt}

-- b stands for m · 2 ^ (e − 1126): in units of the smallest double, m · 2 ^ e / 2 ^ 52
pub record Normalised (b m e : ℕ) : Type 0 where
  pub low : 2 ^ 52 ≤ m
  pub high : m < 2 ^ 53
  pub last : e ≤ 2097
  pub value : units b * 2 ^ 52 ≡ m * 2 ^ e

-- ---- a subnormal

-- its first significant bit is at a place j below 52, and the shift moves it to place 52
first_bit : (b : ℕ) → 0 < b → b < 2 ^ 52 → (j : ℕ) × (shift b + j ≡ 52) × (count_leading_zeros 64 b ≡ shift b + 11) × (2 ^ j ≤ b) × (b < 2 ^ suc j)
first_bit b p h =
    let t = leading_top 64 b p (omega arith) in
    let j = t.0 in
    let l : j < 52 = lt_of_not-le (λ (g : 52 ≤ j). lt_irrefl (2 ^ 52) (lt_of_le_of_lt (pow_mono g) (lt_of_le_of_lt t.2 h))) in
    (j, omega (arith, shift_is b, t.1), omega (arith, shift_is b, t.1), t.2, t.3)

pub zeros_are : (b : ℕ) → 0 < b → b < 2 ^ 52 → count_leading_zeros 64 b ≡ shift b + 11
zeros_are b p h = (first_bit b p h).2

pub shift_most : (b : ℕ) → 0 < b → b < 2 ^ 52 → shift b ≤ 52
shift_most b p h = omega (arith, (first_bit b p h).1)

moved : (b s j : ℕ) → s + j ≡ 52 → 2 ^ j ≤ b → b < 2 ^ suc j → (2 ^ 52 ≤ b * 2 ^ s) × (b * 2 ^ s < 2 ^ 53) × (b * 2 ^ 52 ≡ b * 2 ^ s * 2 ^ j)
moved b s j e l h =
    let p : 2 ^ 52 ≡ 2 ^ s * 2 ^ j = ap (λ (x : ℕ). 2 ^ x) (sym e) ∙ pow-add 2 s j in (
      omega (arith, mul-le-mul_right (2 ^ s) l),
      omega (arith, mul-lt-mul_of_pos_right (rw pow-suc at h) (pow_pos s)),
      ap (λ (x : ℕ). b * x) p ∙ sym (mul_assoc b (2 ^ s) (2 ^ j)),
    )

pub moved_high : (b : ℕ) → 0 < b → b < 2 ^ 52 → b * 2 ^ shift b < 2 ^ 53
moved_high b p h = let f = first_bit b p h in (moved b (shift b) f.0 f.1 f.3 f.4).1

subnormal : (b : ℕ) → 0 < b → b < 2 ^ 52 → Normalised b (significand b) (exponent b)
subnormal b p h =
    let f = first_bit b p h in
    let j = f.0 in
    let e : exponent b ≡ j = omega (arith, exponent-low b h, f.1) in
    let m = moved b (shift b) j f.1 f.3 f.4 in
    rw (significand-low b h, e) (record { low = m.0; high = m.1; last = omega (arith, f.1); value = ap (λ (u : ℕ). u * 2 ^ 52) (units-low b h) ∙ m.2 })

-- ---- a normal number

normal : (b : ℕ) → 2 ^ 52 ≤ b → b < infinity_pattern → Normalised b (significand b) (exponent b)
normal b l h =
    let m = 2 ^ 52 + b % 2 ^ 52 in
    let e : b / 2 ^ 52 + 51 ≡ b / 2 ^ 52 - 1 + 52 = omega arith in
    rw (significand_high b l, exponent_high b l)
    (record {
      low = omega arith;
      high = omega arith;
      last = omega arith;
      value =
          ap (λ (u : ℕ). u * 2 ^ 52) (units_high b l)
          ∙ mul_assoc m (2 ^ (b / 2 ^ 52 - 1)) (2 ^ 52)
          ∙ ap (λ (x : ℕ). m * x) (sym (pow-add 2 (b / 2 ^ 52 - 1) 52) ∙ ap (λ (x : ℕ). 2 ^ x) (sym e));
    })

pub normalised : (b : ℕ) → 0 < b → b < infinity_pattern → Normalised b (significand b) (exponent b)
normalised b p h = ⊎_elim (λ l. normal b l h) (subnormal b p) (le_or_lt (2 ^ 52) b)

-- ---- the number whose root is taken

pub record Scaled (n : ℕ) : Type 0 where
  pub low : 2 ^ 104 ≤ n
  pub high : n ≤ (2 ^ 53 - 1) * 2 ^ 53

-- the odd power of two of an odd exponent goes to the significand
even_or_odd : (m : ℕ) → 2 ^ 52 ≤ m → m < 2 ^ 53 → (o : ℕ) → o < 2 → Scaled (m * 2 ^ (o + 52))
even_or_odd m l h zero p = record { low = omega arith; high = omega arith }
even_or_odd m l h (suc zero) p = record { low = omega arith; high = omega arith }
even_or_odd m l h (suc (suc o)) p = absurd (no p)
  where
    no : suc (suc o) < 2 → ⊥
    no p = omega arith

pub scaled_bounds : (b : ℕ) → 0 < b → b < infinity_pattern → Scaled (scaled b)
scaled_bounds b p h =
    let n = normalised b p h in
    rw (scaled_is b) (even_or_odd (significand b) n.low n.high (exponent b % 2) (omega arith))

-- it is a word, the significand or twice that, times 2 ^ 52
pub word-scaled : (b : ℕ) → significand b * 2 ^ (exponent b % 2) * 2 ^ 52 ≡ scaled b
word-scaled b =
    mul_assoc (significand b) (2 ^ (exponent b % 2)) (2 ^ 52)
    ∙ ap (λ (x : ℕ). significand b * x) (sym (pow-add 2 (exponent b % 2) 52))
    ∙ sym (scaled_is b)

pub word_bounds : (b : ℕ) → 0 < b → b < infinity_pattern → (2 ^ 52 ≤ significand b * 2 ^ (exponent b % 2)) × (significand b * 2 ^ (exponent b % 2) < 2 ^ 54)
word_bounds b p h = let s = scaled_bounds b p h in omega (arith, word-scaled b)

-- half the exponent goes to the result
unfoldable pub half : ℕ → ℕ
half b = exponent b / 2 + 485

-- In units of the smallest double, the root of what b stands for is the root of units b · 2 ^ 1074.
pub square_is : (b : ℕ) → 0 < b → b < infinity_pattern → units b * 2 ^ 1074 ≡ scaled b * (2 ^ half b * 2 ^ half b)
unfolding half
square_is b p h =
    let m = significand b in
    let e = exponent b in
    let g = e / 2 + 485 in
    let sums : e % 2 + 52 + (g + g) ≡ e + 1022 = omega arith in
    ap (λ (x : ℕ). units b * x) (pow-add 2 52 1022)
    ∙ sym (mul_assoc (units b) (2 ^ 52) (2 ^ 1022))
    ∙ ap (λ (x : ℕ). x * 2 ^ 1022) (normalised b p h).value
    ∙ mul_assoc m (2 ^ e) (2 ^ 1022)
    ∙ ap (λ (x : ℕ). m * x)
    (sym (pow-add 2 e 1022) ∙ ap (λ (x : ℕ). 2 ^ x) (sym sums) ∙ pow-add 2 (e % 2 + 52) (g + g)
    ∙ ap (λ (x : ℕ). 2 ^ (e % 2 + 52) * x) (pow-add 2 g g))
    ∙ sym (mul_assoc m (2 ^ (e % 2 + 52)) (2 ^ g * 2 ^ g))
    ∙ ap (λ (x : ℕ). x * (2 ^ g * 2 ^ g)) (sym (scaled_is b))
