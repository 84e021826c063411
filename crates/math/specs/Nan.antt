-- The one NaN of the logic, which has neither sign nor payload: by its test, by a comparison with itself, as 0 / 0, and
-- by its pattern.
use Rattle.std.specs.Prelude.{◌≡◌, ℕ, ◌%◌, ◌^◌, ◌≤◌, true, false, not, T, refl, Float}
use Rattle.std.proofs.Common.{subst, le-ltb}
use Rattle.std.specs.Float.{nan, inf, fin, binary64}
use Rattle.std.specs.Float.Ieee.{div, ne, is_nan, nan_bits, of_bits}
use Rattle.std.specs.Float.Ieee.Bits.{nan_bits_above}
use Rattle.math.specs.Sqrt.{infinity_pattern, nan_pattern}

pub only_nan : (x : Float) → is_nan x ≡ true → x ≡ nan
unfolding is_nan
only_nan nan h = refl
only_nan (inf s) h = cc
only_nan (fin s m e) h = cc

-- what equals itself is no NaN
pub no_nan : (x : Float) → ne x x ≡ false → T (not (is_nan x))
unfolding ne is_nan
no_nan nan e = subst T e tt
no_nan (inf s) e = tt
no_nan (fin s m e) q = tt

pub zero_by_zero : div binary64 (of_bits binary64 0) (of_bits binary64 0) ≡ nan
unfolding div of_bits
zero_by_zero = refl

-- its pattern, which the constant `f64::NAN` has
pub nan_read : of_bits binary64 nan_pattern ≡ nan
unfolding of_bits
nan_read = refl

-- a pattern at or below infinity's, the sign's bit taken off, is no NaN's
pub no_nan_pattern : (b : ℕ) → b % 2 ^ 63 ≤ infinity_pattern → T (not (nan_bits binary64 b))
no_nan_pattern b h = rw (nan_bits_above binary64 b, le-ltb infinity_pattern (b % 2 ^ 63) h) tt
