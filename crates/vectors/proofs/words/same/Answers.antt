-- `vectors::words::same` meets its contract: a pattern is a NaN's where its float is one.
use Rattle.std.specs.Float.{binary64}
use Rattle.std.specs.Float.Ieee.Bits.{nan_bits_is}
use Rattle.vectors.specs.Words.{matches}
use Rattle.vectors.proofs.words.same.Goals as goal

pub returns-then-is_nan : goal.returns-then-is_nan
unfolding matches
returns-then-is_nan c = rw (← c.if-is_nan.ensures.value, nan_bits_is binary64 c.args.bits, ← c.float.ensures) c.is_nan-then-is_nan.ensures.value
