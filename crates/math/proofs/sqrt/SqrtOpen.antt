-- The definitions of the square root by cases, one layer at a time, so that no proof starts to evaluate a root.
use Rattle.std.proofs.Common.{◌≡◌, ℕ, ◌+◌, ◌-◌, ◌*◌, ◌/◌, ◌%◌, ◌^◌, ◌<◌, ◌≤◌, cond, ◌||◌, eqb, ltb, refl, ◌∙◌, arith, le-ltb, lt-ltb, eq-eqb, ne_eqb}
use lib.Count.{count_leading_zeros}
use lib.Ieee.{Float, binary64, of_bits, to_bits}
use Rattle.math.specs.Sqrt.{root, shift, significand, exponent, scaled, rounded, positive_root, infinity_pattern, nan_pattern, sqrt_bits, sqrt_of}

pub shift_is : (b : ℕ) → shift b ≡ count_leading_zeros 64 b - 11
unfolding shift
shift_is b = refl

-- ---- a subnormal's pattern, and a normal number's

pub significand-low : (b : ℕ) → b < 2 ^ 52 → significand b ≡ b * 2 ^ shift b
unfolding significand
significand-low b h = rw (lt-ltb b (2 ^ 52) h)

pub significand_high : (b : ℕ) → 2 ^ 52 ≤ b → significand b ≡ 2 ^ 52 + b % 2 ^ 52
unfolding significand
significand_high b h = rw (le-ltb b (2 ^ 52) h)

pub exponent-low : (b : ℕ) → b < 2 ^ 52 → exponent b ≡ 52 - shift b
unfolding exponent
exponent-low b h = rw (lt-ltb b (2 ^ 52) h)

pub exponent_high : (b : ℕ) → 2 ^ 52 ≤ b → exponent b ≡ b / 2 ^ 52 + 51
unfolding exponent
exponent_high b h = rw (le-ltb b (2 ^ 52) h)

pub scaled_is : (b : ℕ) → scaled b ≡ significand b * 2 ^ (exponent b % 2 + 52)
unfolding scaled
scaled_is b = refl

pub rounded_is : (n : ℕ) → rounded n ≡ cond (ltb (root 53 n * root 53 n + root 53 n) n) (root 53 n + 1) (root 53 n)
unfolding rounded
rounded_is n = refl

pub positive_root_is : (b : ℕ) → positive_root b ≡ (exponent b / 2 + 485) * 2 ^ 52 + rounded (scaled b)
unfolding positive_root
positive_root_is b = refl

-- ---- the four kinds of patterns

sqrt_bits_is : (b : ℕ) → sqrt_bits b ≡ cond (eqb (b % 2 ^ 63) 0 || eqb b infinity_pattern) b (cond (ltb infinity_pattern b) nan_pattern (positive_root b))
unfolding sqrt_bits
sqrt_bits_is b = refl

pub sqrt_bits-zero : (b : ℕ) → b % 2 ^ 63 ≡ 0 → sqrt_bits b ≡ b
sqrt_bits-zero b h = sqrt_bits_is b ∙ rw (eq-eqb (b % 2 ^ 63) 0 h)

pub sqrt_bits_infinity : (b : ℕ) → b ≡ infinity_pattern → sqrt_bits b ≡ b
sqrt_bits_infinity b h = sqrt_bits_is b ∙ rw (ne_eqb (b % 2 ^ 63) 0 (omega arith), eq-eqb b infinity_pattern h)

pub sqrt_bits_above : (b : ℕ) → infinity_pattern < b → (b % 2 ^ 63 ≡ 0 → ⊥) → sqrt_bits b ≡ nan_pattern
sqrt_bits_above b h n = sqrt_bits_is b ∙ rw (ne_eqb (b % 2 ^ 63) 0 n, ne_eqb b infinity_pattern (omega arith), lt-ltb infinity_pattern b h)

pub sqrt_bits_positive : (b : ℕ) → 0 < b → b < infinity_pattern → sqrt_bits b ≡ positive_root b
sqrt_bits_positive b p h =
    sqrt_bits_is b ∙ rw (ne_eqb (b % 2 ^ 63) 0 (omega arith), ne_eqb b infinity_pattern (omega arith), le-ltb infinity_pattern b (omega arith))

pub sqrt_of_is : (x : Float) → sqrt_of x ≡ of_bits binary64 (sqrt_bits (to_bits binary64 x))
unfolding sqrt_of
sqrt_of_is x = refl
