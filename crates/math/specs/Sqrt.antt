-- The square root of a double, correctly rounded, over whole numbers. `sqrt_bits` goes from bit pattern to bit pattern:
-- the sign (place 63), the exponent's field (places 52 to 62), the fraction (places 0 to 51). `sqrt_of` is the same on
-- the logic's values. That the result is the double nearest to the true root is shown in
-- `proofs/sqrt/SqrtNearest.antt`, and on values in `proofs/sqrt/SqrtValues.antt`.
use Rattle.std.specs.Prelude.{ℕ, zero, suc, ◌+◌, ◌-◌, ◌*◌, ◌/◌, ◌%◌, ◌^◌, cond, ◌||◌, ◌==◌, nat_le, nat_lt, Float}
use Rattle.std.specs.Int.Count.{count_leading_zeros}
use Rattle.std.specs.Float.{binary64}
use Rattle.std.specs.Float.Ieee.{of_bits, to_bits}

-- The floor root of an n below 4 ^ k, a binary digit at a time: root · root ≤ n < (root + 1) · (root + 1).
unfoldable pub root : ℕ → ℕ → ℕ
root zero n = 0
root (suc k) n = let r = 2 * root k (n / 4) in cond (nat_le ((r + 1) * (r + 1)) n) (r + 1) r

-- The scaling. A positive finite pattern b stands for significand b · 2 ^ (exponent b − 1126), and
-- 2 ^ 52 ≤ significand b < 2 ^ 53. A pattern below 2 ^ 52 is a subnormal's: its first significant bit is moved to
-- place 52.
unfoldable pub shift : ℕ → ℕ
unfolding count_leading_zeros
shift b = count_leading_zeros 64 b - 11

unfoldable pub significand : ℕ → ℕ
unfolding shift
significand b = cond (nat_lt b (2 ^ 52)) (b * 2 ^ shift b) (2 ^ 52 + b % 2 ^ 52)

unfoldable pub exponent : ℕ → ℕ
unfolding shift
exponent b = cond (nat_lt b (2 ^ 52)) (52 - shift b) (b / 2 ^ 52 + 51)

-- The number whose root is taken, from 2 ^ 104 to below 2 ^ 106: b stands for scaled b · 4 ^ (exponent b / 2 − 589).
unfoldable pub scaled : ℕ → ℕ
unfolding significand exponent
scaled b = significand b * 2 ^ (exponent b % 2 + 52)

-- The rounding: the floor root r, or r + 1 where n is above (r + 1/2) · (r + 1/2). No n is equal to that.
unfoldable pub rounded : ℕ → ℕ
unfolding root
rounded n = let r = root 53 n in cond (nat_lt (r * r + r) n) (r + 1) r

-- The pattern of rounded (scaled b) · 2 ^ (exponent b / 2 − 589). The leading digit adds one to the field.
unfoldable pub positive_root : ℕ → ℕ
unfolding scaled exponent rounded
positive_root b = (exponent b / 2 + 485) * 2 ^ 52 + rounded (scaled b)

abbrev pub infinity_pattern : ℕ
infinity_pattern = 0x7FF0_0000_0000_0000

abbrev pub nan_pattern : ℕ
nan_pattern = 0x7FF8_0000_0000_0000

-- Either zero, and +infinity, stays. Any other pattern above +infinity's is a NaN's or that of a negative number.
unfoldable pub sqrt_bits : ℕ → ℕ
unfolding positive_root
sqrt_bits b =
    cond (b % 2 ^ 63 == 0 || b == infinity_pattern) b
    (cond (nat_lt infinity_pattern b) nan_pattern (positive_root b))

-- On values. The logic has one NaN; whichever pattern stands for it, its root is that NaN.
unfoldable pub sqrt_of : Float → Float
unfolding sqrt_bits of_bits to_bits
sqrt_of x = of_bits binary64 (sqrt_bits (to_bits binary64 x))
