-- The number that a positive finite pattern stands for, counted in units of the smallest double, 2 ^ −1074. It is the
-- value that the logic's account of IEEE 754 reads from the pattern (`units_value`), it grows with the pattern
-- (`units_mono`), and the step from a pattern to the next is one unit in the last place (`units-suc`).
use Rattle.std.proofs.Common.{◌≡◌, ℕ, suc, ◌+◌, ◌-◌, ◌*◌, ◌/◌, ◌%◌, ◌^◌, ◌<◌, ◌≤◌, false, cond, ltb, ◌⊎◌, sym, ap, ◌∙◌, subst, ap₂, inl, inr, ⊎_elim, le_refl}
use Rattle.std.proofs.Common.{mod-lt, mod-eq_of_lt, eq-or-lt_of_le, lt_of_not-le, mul-one, arith, pow_pos, le-ltb, lt-ltb, ne_eqb}
use native.Mathlib.Nat.{pow-succ'}
use native.Mathlib.Decide.{dec_le, le_ind}
use borrow.Author.Tests.{lt-leb}
use lib.Arith.{digits_div, digits_mod}
use lib.Ieee.{binary64, of_bits, of_fields, odd}
use lib.Ieee.Exact.{HasValue, odd_sign}
use Rattle.math.specs.Sqrt.{infinity_pattern}

-- A field of 0 has no leading digit, and counts as a field of 1.
unfoldable pub units : ℕ → ℕ
units b = cond (ltb b (2 ^ 52)) b ((2 ^ 52 + b % 2 ^ 52) * 2 ^ (b / 2 ^ 52 - 1))

pub units-low : (b : ℕ) → b < 2 ^ 52 → units b ≡ b
unfolding units
units-low b h = rw (lt-ltb b (2 ^ 52) h)

pub units_high : (b : ℕ) → 2 ^ 52 ≤ b → units b ≡ (2 ^ 52 + b % 2 ^ 52) * 2 ^ (b / 2 ^ 52 - 1)
unfolding units
units_high b h = rw (le-ltb b (2 ^ 52) h)

pub units-at : (x t : ℕ) → t < 2 ^ 52 → units (suc x * 2 ^ 52 + t) ≡ (2 ^ 52 + t) * 2 ^ x
units-at x t h =
    units_high (suc x * 2 ^ 52 + t) (omega arith)
    ∙ ap₂ (λ (f e : ℕ). (2 ^ 52 + f) * 2 ^ e) (digits_mod (suc x) h) (ap (λ (q : ℕ). q - 1) (digits_div (suc x) h) ∙ less_one)
  where
    less_one : suc x - 1 ≡ x
    less_one = omega arith

pub le_or_lt : (a b : ℕ) → (a ≤ b) ⊎ (b < a)
le_or_lt a b = elim (dec_le a b) [ yes p ↦ inl p | no q ↦ inr (lt_of_not-le q) ]

-- the unit in the last place of the pattern b, in units of the smallest double
abbrev pub ulp : ℕ → ℕ
ulp b = 2 ^ (b / 2 ^ 52 - 1)

suc-low : (b : ℕ) → suc b < 2 ^ 52 → units (suc b) ≡ units b + ulp b
suc-low b h =
    let e : b / 2 ^ 52 - 1 ≡ 0 = omega arith in
    let one : ulp b ≡ 1 = ap (λ (x : ℕ). 2 ^ x) e in
    let u = units-low b (omega arith) in
    let v = units-low (suc b) h in
    omega arith

-- the fraction grows
suc_in : (x t : ℕ) → suc t < 2 ^ 52 → units (suc (suc x * 2 ^ 52 + t)) ≡ units (suc x * 2 ^ 52 + t) + 2 ^ x
suc_in x t h =
    let e : suc (suc x * 2 ^ 52 + t) ≡ suc x * 2 ^ 52 + suc t = omega arith in
    let u = units-at x t (omega arith) in
    let v = ap units e ∙ units-at x (suc t) h in
    omega arith

-- the fraction is full, and the field grows
suc-over : (x t : ℕ) → suc t ≡ 2 ^ 52 → units (suc (suc x * 2 ^ 52 + t)) ≡ units (suc x * 2 ^ 52 + t) + 2 ^ x
suc-over x t h =
    let e : suc (suc x * 2 ^ 52 + t) ≡ suc (suc x) * 2 ^ 52 + 0 = omega arith in
    let u = units-at x t (omega arith) in
    let v = ap units e ∙ units-at (suc x) 0 (omega arith) in
    omega (arith, pow-succ' 2 x, ap (λ (w : ℕ). w * 2 ^ x) h)

suc-first : (b : ℕ) → suc b ≡ 2 ^ 52 → units (suc b) ≡ units b + ulp b
suc-first b h =
    let e : b / 2 ^ 52 - 1 ≡ 0 = omega arith in
    let one : ulp b ≡ 1 = ap (λ (x : ℕ). 2 ^ x) e in
    let f : suc b ≡ 1 * 2 ^ 52 + 0 = omega arith in
    let u = units-low b (omega arith) in
    let v : units (suc b) ≡ 2 ^ 52 = ap units f ∙ units-at 0 0 (omega arith) in
    omega arith

pub units-suc : (b : ℕ) → units (suc b) ≡ units b + ulp b
units-suc b = ⊎_elim small large (le_or_lt (suc b) (2 ^ 52))
  where
    small : suc b ≤ 2 ^ 52 → units (suc b) ≡ units b + ulp b
    small h = ⊎_elim (suc-first b) (suc-low b) (eq-or-lt_of_le h)

    large : 2 ^ 52 < suc b → units (suc b) ≡ units b + ulp b
    large h =
        let x = b / 2 ^ 52 - 1 in
        let t = b % 2 ^ 52 in
        let e : suc x * 2 ^ 52 + t ≡ b = omega arith in
        subst (λ (c : ℕ). units (suc c) ≡ units c + 2 ^ x) e (⊎_elim (suc-over x t) (suc_in x t) (eq-or-lt_of_le (mod-lt b (pow_pos 52))))

pub units_mono : (b c : ℕ) → b ≤ c → units b ≤ units c
units_mono b c h = le_ind (λ (m : ℕ). units b ≤ units m) (le_refl (units b)) (λ m k l. omega (arith, units-suc m)) c h

pub units_strict : (b c : ℕ) → b < c → units b < units c
units_strict b c h = omega (arith, units_mono (suc b) c h, units-suc b, pow_pos (b / 2 ^ 52 - 1))

-- ---- the value that the logic reads from the pattern

of_bits_is : (b : ℕ) → b < 2 ^ 63 → of_bits binary64 b ≡ of_fields binary64 false (b / 2 ^ 52) (b % 2 ^ 52)
unfolding of_bits
of_bits_is b h = rw (lt-leb (2 ^ 63) b h, mod-eq_of_lt h)

fields_low : (t : ℕ) → HasValue (of_fields binary64 false 0 t) false t (2 ^ 1074)
unfolding of_fields
fields_low t = subst (λ (n : ℕ). HasValue (odd 53 false t 0 1074) false n (2 ^ 1074)) (mul-one t) (odd_sign 53 false t 0 1074)

fields_high : (x t : ℕ) → suc x < 2047 → HasValue (of_fields binary64 false (suc x) t) false ((2 ^ 52 + t) * 2 ^ x) (2 ^ 1074)
unfolding of_fields
fields_high x t h = rw (ne_eqb (suc x) 2047 (omega arith)) (odd_sign 53 false (2 ^ 52 + t) x 1074)

pub units_value : (b : ℕ) → b < infinity_pattern → HasValue (of_bits binary64 b) false (units b) (2 ^ 1074)
units_value b h = rw (of_bits_is b (omega arith)) (⊎_elim large small (le_or_lt (2 ^ 52) b))
  where
    small : b < 2 ^ 52 → HasValue (of_fields binary64 false (b / 2 ^ 52) (b % 2 ^ 52)) false (units b) (2 ^ 1074)
    small k =
        let q : b / 2 ^ 52 ≡ 0 = omega arith in
        let t : b % 2 ^ 52 ≡ b = omega arith in
        rw (q, t, units-low b k) (fields_low b)

    large : 2 ^ 52 ≤ b → HasValue (of_fields binary64 false (b / 2 ^ 52) (b % 2 ^ 52)) false (units b) (2 ^ 1074)
    large k =
        let q : b / 2 ^ 52 ≡ suc (b / 2 ^ 52 - 1) = omega arith in
        rw (units_high b k) (subst
        (λ (x : ℕ). HasValue (of_fields binary64 false x (b % 2 ^ 52)) false ((2 ^ 52 + b % 2 ^ 52) * 2 ^ (b / 2 ^ 52 - 1)) (2 ^ 1074))
        (sym q) (fields_high (b / 2 ^ 52 - 1) (b % 2 ^ 52) (omega arith)))
