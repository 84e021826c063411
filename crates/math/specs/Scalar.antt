-- What the scalar helpers of math/scalar.rs give, in IEEE 754's binary64, each operation rounded once and in the
-- source's order. Each definition has its function's name.
use Rattle.std.specs.Prelude.{◌≡◌, false, cond, ℤ, pos, negsuc, refl, Float}
use Rattle.std.specs.Float.Ieee as Ieee
use Rattle.std.specs.Float.{fin, binary64}
use Rattle.std.specs.Float.Ieee.{of_bits}

-- ---- the numbers 0, 1/2, 1 and 3/2, by their bit patterns, as compiled code has them

abbrev pub f0 : Float
f0 = of_bits binary64 0

abbrev pub f_half : Float
f_half = of_bits binary64 0x3fe0_0000_0000_0000

abbrev pub f1 : Float
f1 = of_bits binary64 0x3ff0_0000_0000_0000

abbrev pub f3_halves : Float
f3_halves = of_bits binary64 0x3ff8_0000_0000_0000

-- the patterns are those of the numbers m * 2 ^ e
pub numbers : (f0 ≡ fin false 0 (pos 0)) × (f_half ≡ fin false 1 (negsuc 0)) × (f1 ≡ fin false 1 (pos 0)) × (f3_halves ≡ fin false 3 (negsuc 0))
unfolding of_bits
numbers = (refl, refl, refl, refl)

-- ---- the helpers

-- the smaller of the two: the other one where one is a NaN, the first where they are equal, as -0 and 0 are
abbrev pub min_of : Float → Float → Float
min_of a b = cond (Ieee.lt b a) b (cond (Ieee.is_nan a) b a)

-- the larger of the two, likewise
abbrev pub max_of : Float → Float → Float
max_of a b = cond (Ieee.lt a b) b (cond (Ieee.is_nan a) b a)

-- the middle of three
abbrev pub median : Float → Float → Float → Float
median a b c = max_of (min_of a b) (min_of (max_of a b) c)

-- (1 - w) * a + w * b
abbrev pub mix : Float → Float → Float → Float
mix a b w = Ieee.add binary64 (Ieee.mul binary64 (Ieee.sub binary64 f1 w) a) (Ieee.mul binary64 w b)

-- a below a, else b above b, else n: for every a and b, NaN and reversed bounds among them
abbrev pub clamp : Float → Float → Float → Float
clamp n a b = cond (Ieee.lt n a) a (cond (Ieee.lt b n) b n)

abbrev pub clamp01 : Float → Float
clamp01 n = clamp n f0 f1

-- 1 above zero, -1 below it, else 0
abbrev pub sign : Float → ℤ
sign n = cond (Ieee.lt f0 n) (pos 1) (cond (Ieee.lt n f0) (negsuc 0) (pos 0))

-- 1 above zero, else -1
abbrev pub non_zero_sign : Float → ℤ
non_zero_sign n = cond (Ieee.lt f0 n) (pos 1) (negsuc 0)
