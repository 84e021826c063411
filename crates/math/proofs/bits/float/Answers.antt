-- `math::bits::float` meets its contract: the test is that of a NaN's pattern.
use Rattle.std.proofs.Common.{◌≡◌, ℕ, ◌%◌, ◌<◌, Bool, not, T, sym, ◌∙◌, subst, le-ltb, lt-ltb}
use lib.Ieee.{nan, binary64, of_bits}
use lib.Ieee.Bits.{nan_bits_is, nan_bits_above}
use Rattle.math.specs.Nan.{only_nan, nan_read}
use Rattle.math.proofs.bits.float.Goals as goal

nan_pattern : (b : ℕ) → 0x7FF0_0000_0000_0000 < b % 0x8000_0000_0000_0000 → of_bits binary64 b ≡ nan
nan_pattern b h = only_nan (of_bits binary64 b) (sym (nan_bits_is binary64 b) ∙ nan_bits_above binary64 b ∙ lt-ltb _ _ h)

pub returns-then-pattern-gt9218868437227405312 : goal.returns-then-pattern-gt9218868437227405312
returns-then-pattern-gt9218868437227405312 c = nan_read ∙ sym (nan_pattern _ c.if-pattern-gt9218868437227405312.true)

pub float_from_bits-result : goal.float_from_bits-result
float_from_bits-result c = subst (λ (b : Bool). T (not b)) (sym (nan_bits_above binary64 _ ∙ le-ltb _ _ c.if-pattern-gt9218868437227405312.false)) tt
