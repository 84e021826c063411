-- Which bytes are a record: the functions that have a number, and how many bytes the record of each has.
use Rattle.std.specs.Prelude.{Bool, cond, ◌&&◌, ◌||◌, List, ℕ, eqb, leb, ltb, length}
use Rattle.vectors.specs.Words.{word_at, headed}

-- of a heading or a record, by its first two words
unfoldable pub record_bytes : List ℕ → ℕ
record_bytes s = cond (headed s) 24 (cond (ltb (word_at s 0) 32) 64 (cond (ltb (word_at s 0) 64) 160 (word_at s 8)))

-- math, geometry, and what a host calls
unfoldable pub known : ℕ → Bool
known f = (ltb f 29 || (leb 32 f && ltb f 47)) || (leb 64 f && ltb f 77)

-- a record and nothing else
unfoldable pub is_record : List ℕ → Bool
is_record s = known (word_at s 0) && eqb (length s) (record_bytes s)
