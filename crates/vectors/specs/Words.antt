-- Words out of bytes, the lowest byte first, and when a float is the one that a pattern records.
use Rattle.std.specs.Prelude.{Bool, cond, List, ℕ, ◌+◌, eqb, leb, Float, length, take, drop}
use Rattle.std.specs.Float.{binary64}
use Rattle.std.specs.Float.Ieee.{is_nan, nan_bits, to_bits}
use Rattle.std.specs.Int.{from_le_bytes, w64}

-- 0 where the eight bytes are not all there
unfoldable pub word_at : List ℕ → ℕ → ℕ
word_at s at = cond (leb (at + 8) (length s)) (from_le_bytes w64 (take 8 (drop at s))) 0

-- the first word is all ones
abbrev pub headed : List ℕ → Bool
headed s = eqb (word_at s 0) 0xffff_ffff_ffff_ffff

-- the same bits, or two NaN
unfoldable pub matches : Float → ℕ → Bool
matches x bits = cond (is_nan x) (nan_bits binary64 bits) (eqb (to_bits binary64 x) bits)
