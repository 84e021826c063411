-- Evaluations of the definition of the square root: P4 (SCOPE, Examples), and a few more.
use Rattle.std.specs.Prelude.{◌≡◌, false, pos, negsuc, from_bits, refl}
use Rattle.std.specs.Float.{nan, fin, binary64}
use Rattle.math.specs.Sqrt.{sqrt_bits, sqrt_of}

-- P4: the root of 2 is 3FF6A09E667F3BCD, and of 2 ^ −1074 it is 2 ^ −537
pub root_examples :
    (sqrt_of (fin false 1 (pos 1)) ≡ from_bits binary64 0x3FF6_A09E_667F_3BCD) × (sqrt_of (fin false 1 (negsuc 1073)) ≡ fin false 1 (negsuc 536))
unfolding sqrt_of
root_examples = (refl, refl)

pub record SqrtExamples : Type 0 where
  -- P4 on patterns
  pub root_of_two : sqrt_bits 0x4000_0000_0000_0000 ≡ 0x3FF6_A09E_667F_3BCD
  pub root_of_smallest : sqrt_bits 1 ≡ 0x1E60_0000_0000_0000
  pub root_of_four : sqrt_bits 0x4010_0000_0000_0000 ≡ 0x4000_0000_0000_0000
  pub root_of_largest : sqrt_bits 0x7FEF_FFFF_FFFF_FFFF ≡ 0x5FEF_FFFF_FFFF_FFFF
  -- 1 + 2 ^ −52: the remainder is the root itself, and is not enough to round up
  pub root_next_to_one : sqrt_bits 0x3FF0_0000_0000_0001 ≡ 0x3FF0_0000_0000_0000
  pub negative_is_nan : sqrt_bits 0xBFF0_0000_0000_0000 ≡ 0x7FF8_0000_0000_0000
  pub nan_is_nan : sqrt_bits 0xFFFF_FFFF_FFFF_FFFF ≡ 0x7FF8_0000_0000_0000
  pub value_nan : sqrt_of nan ≡ nan

pub sqrt_examples : SqrtExamples
unfolding sqrt_bits sqrt_of
sqrt_examples = record {
  root_of_two = refl;
  root_of_smallest = refl;
  root_of_four = refl;
  root_of_largest = refl;
  root_next_to_one = refl;
  negative_is_nan = refl;
  nan_is_nan = refl;
  value_nan = refl;
}
