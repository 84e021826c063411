-- The definition of the square root is right, with no real number in the claim: `sqrt_nearest` for every positive
-- finite double, `sqrt_special` for every other pattern.
use Rattle.std.proofs.Common.{◌≡◌, ℕ, suc, ◌+◌, ◌-◌, ◌*◌, ◌/◌, ◌^◌, ◌<◌, ◌≤◌, sym, refl, ap, ◌∙◌, ⊎_elim, le_of_suc-le-suc, le_of_lt, mul-le-mul_right}
use Rattle.std.proofs.Common.{mul-le-mul, le_antisymm, mul-pos, lt_of_not-le, arith, pow_pos}
use Rattle.math.specs.Sqrt.{scaled, rounded, infinity_pattern, nan_pattern, sqrt_bits}
use Rattle.math.proofs.sqrt.SqrtOpen.{positive_root_is, sqrt_bits_above, sqrt_bits_positive}
use Rattle.math.proofs.sqrt.SqrtRounded.{Within, rounded-within}
use Rattle.math.proofs.sqrt.SqrtScale.{scaled_bounds, half, square_is, normalised}
use Rattle.math.proofs.sqrt.SqrtUnits.{units, units-at, units-suc, units_mono, units_strict, ulp, le_or_lt}

-- y is the double nearest to the square root of the double b. `units` is a pattern's value in units of 2 ^ −1074
-- (`units_value`), so in these units the true root is the root of units b · 2 ^ 1074, and (units y + units z) / 2 is
-- the midpoint between y and z. Of every other z, from +0 up, the true root lies strictly on y's side of that midpoint:
-- so y is nearer than z, and no tie arises. At the two z beside y these are the midpoints that enclose the root. (A
-- negative double is further away than +0. At infinity's pattern `units` is 2 ^ 1024 in size, the number that decides
-- where a result overflows.)
pub record Nearest (b y : ℕ) : Type 0 where
  -- y is normal and finite: never subnormal, never an overflow
  pub normal : 2 ^ 52 ≤ y
  pub finite : y < infinity_pattern
  pub above : (z : ℕ) → y < z → 4 * (units b * 2 ^ 1074) < (units y + units z) * (units y + units z)
  pub below : (z : ℕ) → z < y → (units y + units z) * (units y + units z) < 4 * (units b * 2 ^ 1074)
  -- where b is the square of a double, that double is y
  pub exact : (z : ℕ) → units z * units z ≡ units b * 2 ^ 1074 → z ≡ y

-- ---- inequalities between squares: w is twice a midpoint, g the unit in the last place

mid_above : (n s g w : ℕ) → 0 < g → n ≤ s * s + s → (2 * s + 1) * g ≤ w → 4 * (n * (g * g)) < w * w
mid_above n s g w p h l = omega (arith, mul-le-mul l l, mul-le-mul_right (g * g) h, mul-pos p p)

mid_below : (n s g w : ℕ) → 0 < g → s * s + s < n → w ≤ (2 * s + 1) * g → w * w < 4 * (n * (g * g))
mid_below n s g w p h l = omega (arith, mul-le-mul l l, mul-le-mul_right (g * g) h, mul-pos p p)

mid_under : (n s g w : ℕ) → s * s ≤ n → w < 2 * (s * g) → w * w < 4 * (n * (g * g))
mid_under n s g w h l = omega (arith, mul-le-mul l l, mul-le-mul_right (g * g) h)

-- ---- the pattern of s · 2 ^ g, and the patterns beside it

module _ (n s g : ℕ) (w : Within n s) where
  units-root : units (g * 2 ^ 52 + s) ≡ s * 2 ^ g
  units-root =
      let l = w.low in
      let h = w.high in
      let t = s - 2 ^ 52 in
      let e : suc g * 2 ^ 52 + t ≡ g * 2 ^ 52 + s = omega arith in
      let f : 2 ^ 52 + t ≡ s = omega arith in
      sym (ap units e) ∙ units-at g t (omega arith) ∙ ap (λ (x : ℕ). x * 2 ^ g) f

  -- the next pattern is a unit in the last place higher
  next-root : (z : ℕ) → g * 2 ^ 52 + s < z → (2 * s + 1) * 2 ^ g ≤ units (g * 2 ^ 52 + s) + units z
  next-root z h =
      let y = g * 2 ^ 52 + s in
      let f : y / 2 ^ 52 - 1 ≡ g = omega (arith, w.low, w.high) in
      let u : ulp y ≡ 2 ^ g = ap (λ (x : ℕ). 2 ^ x) f in
      omega (arith, units-root, units-suc y, units_mono (suc y) z h, u)

  root_above : (z : ℕ) → g * 2 ^ 52 + s < z → 4 * (n * (2 ^ g * 2 ^ g)) < (units (g * 2 ^ 52 + s) + units z) * (units (g * 2 ^ 52 + s) + units z)
  root_above z h = mid_above n s (2 ^ g) (units (g * 2 ^ 52 + s) + units z) (pow_pos g) w.below (next-root z h)

  -- The pattern before is a unit in the last place lower, or half of one where s is 2 ^ 52. There n is not below s · s.
  root_below : 2 ^ 104 ≤ n → (z : ℕ) → z < g * 2 ^ 52 + s → (units (g * 2 ^ 52 + s) + units z) * (units (g * 2 ^ 52 + s) + units z) < 4 * (n * (2 ^ g * 2 ^ g))
  root_below b z h = ⊎_elim under before (le_or_lt (s * s) n)
    where
      under : s * s ≤ n → (units (g * 2 ^ 52 + s) + units z) * (units (g * 2 ^ 52 + s) + units z) < 4 * (n * (2 ^ g * 2 ^ g))
      under l = mid_under n s (2 ^ g) (units (g * 2 ^ 52 + s) + units z) l (omega (arith, units-root, units_strict z (g * 2 ^ 52 + s) h))

      more : n < s * s → 2 ^ 52 < s
      more l = lt_of_not-le (λ (k : s ≤ 2 ^ 52). no k)
        where
          no : s ≤ 2 ^ 52 → ⊥
          no k = omega (arith, mul-le-mul k k)

      before : n < s * s → (units (g * 2 ^ 52 + s) + units z) * (units (g * 2 ^ 52 + s) + units z) < 4 * (n * (2 ^ g * 2 ^ g))
      before l =
          let r = s - 1 in
          let x = g * 2 ^ 52 + r in
          let k : 2 ^ 52 ≤ r = omega (arith, more l) in
          let e : suc r ≡ s = omega arith in
          let p : suc x ≡ g * 2 ^ 52 + s = omega arith in
          let f : x / 2 ^ 52 - 1 ≡ g = omega (arith, w.high) in
          let u : ulp x ≡ 2 ^ g = ap (λ (i : ℕ). 2 ^ i) f in
          let v : units (g * 2 ^ 52 + s) ≡ units x + 2 ^ g = sym (ap units p) ∙ units-suc x ∙ ap (λ (i : ℕ). units x + i) u in
          let a : r * r + r < n = omega (arith, w.above, ap (λ (i : ℕ). i * i) e) in
          let q : suc r * 2 ^ g ≡ s * 2 ^ g = ap (λ (i : ℕ). i * 2 ^ g) e in
          mid_below n r (2 ^ g) (units (g * 2 ^ 52 + s) + units z) (pow_pos g) a (omega (arith, units-root, v, q, units_mono z x (omega arith)))

-- ---- the claims

twice : (a x y : ℕ) → a * a ≡ x → y ≤ a → 4 * x < (y + a) * (y + a) → ⊥
twice a x y e l h =
    let k : y + a ≤ 2 * a = omega arith in
    omega (arith, mul-le-mul k k)

half_of : (a x y : ℕ) → a * a ≡ x → a ≤ y → (y + a) * (y + a) < 4 * x → ⊥
half_of a x y e l h =
    let k : 2 * a ≤ y + a = omega arith in
    omega (arith, mul-le-mul k k)

module _ (b : ℕ) (p : 0 < b) (h : b < infinity_pattern) where
  within : Within (scaled b) (rounded (scaled b))
  within = rounded-within (scaled b) (scaled_bounds b p h)

  result : ℕ
  result = half b * 2 ^ 52 + rounded (scaled b)

  result_is : sqrt_bits b ≡ result
  unfolding result half
  result_is = sqrt_bits_positive b p h ∙ positive_root_is b

  result_above : (z : ℕ) → result < z → 4 * (units b * 2 ^ 1074) < (units result + units z) * (units result + units z)
  unfolding result
  result_above z l = rw (square_is b p h) (root_above (scaled b) (rounded (scaled b)) (half b) within z l)

  result-below : (z : ℕ) → z < result → (units result + units z) * (units result + units z) < 4 * (units b * 2 ^ 1074)
  unfolding result
  result-below z l = rw (square_is b p h) (root_below (scaled b) (rounded (scaled b)) (half b) within (scaled_bounds b p h).low z l)

  result_exact : (z : ℕ) → units z * units z ≡ units b * 2 ^ 1074 → z ≡ result
  result_exact z e = le_antisymm (le_of_suc-le-suc (lt_of_not-le no_more)) (le_of_suc-le-suc (lt_of_not-le no_less))
    where
      no_more : result < z → ⊥
      no_more l = twice (units z) (units b * 2 ^ 1074) (units result) e (units_mono result z (le_of_lt l)) (result_above z l)

      no_less : z < result → ⊥
      no_less l = half_of (units z) (units b * 2 ^ 1074) (units result) e (units_mono z result (le_of_lt l)) (result-below z l)

  result_nearest : Nearest b result
  unfolding result half
  result_nearest = record {
    normal = omega (arith, within.low);
    finite = omega (arith, within.high, (normalised b p h).last);
    above = result_above;
    below = result-below;
    exact = result_exact;
  }

pub sqrt_nearest : (b : ℕ) → 0 < b → b < infinity_pattern → Nearest b (sqrt_bits b)
sqrt_nearest b p h = rw (result_is b p h) (result_nearest b p h)

-- Every other pattern of 64 digits: the two zeros and +infinity stay, and a NaN or a negative number gives the one NaN.
pub record Special : Type 0 where
  pub zero_stays : sqrt_bits 0 ≡ 0
  pub negative_zero_stays : sqrt_bits (2 ^ 63) ≡ 2 ^ 63
  pub infinity_stays : sqrt_bits infinity_pattern ≡ infinity_pattern
  pub of_nan : (b : ℕ) → infinity_pattern < b → b < 2 ^ 63 → sqrt_bits b ≡ nan_pattern
  pub of_negative : (b : ℕ) → 2 ^ 63 < b → b < 2 ^ 64 → sqrt_bits b ≡ nan_pattern

pub sqrt_special : Special
unfolding sqrt_bits
sqrt_special = record {
  zero_stays = refl;
  negative_zero_stays = refl;
  infinity_stays = refl;
  of_nan = λ b h l. sqrt_bits_above b h (omega arith);
  of_negative = λ b h l. sqrt_bits_above b (omega arith) (omega arith);
}
