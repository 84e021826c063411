-- Numbers in a file, lowest byte first, and the tests of the floats' bit patterns. A pattern is tested as a whole
-- number before it becomes a float, so that nothing turns on the bits of a NaN; proofs/patterns/PatternMeaning.antt
-- says what each test means of the float.
use Rattle.std.specs.Prelude.{ℕ, zero, suc, ◌+◌, ◌*◌, ◌/◌, ◌%◌, Bool, ◌||◌, List, [], ◌∷◌, ◌++◌, map, take, drop, leb, ltb, eqb, Float}
use Rattle.std.specs.Float.{binary64}
use Rattle.std.specs.Float.Ieee.{of_bits, to_bits}

-- the number of some bytes
unfoldable pub number : List ℕ → ℕ
number [] = 0
number (b ∷ bytes) = b + 256 * number bytes

-- and back: a number in so many bytes
unfoldable pub little : ℕ → ℕ → List ℕ
little zero n = []
little (suc size) n = n % 256 ∷ little size (n / 256)

-- so many numbers of eight bytes
unfoldable pub words : ℕ → List ℕ → List ℕ
unfolding number
words zero bytes = []
words (suc n) bytes = number (take 8 bytes) ∷ words n (drop 8 bytes)

-- the floats of some patterns
unfoldable pub floats : List ℕ → List Float
floats patterns = map (of_bits binary64) patterns

-- and back: each float as its pattern, eight bytes
unfoldable pub float_bytes : List Float → List ℕ
unfolding little
float_bytes [] = []
float_bytes (x ∷ xs) = little 8 (to_bits binary64 x) ++ float_bytes xs

-- the sign's bit alone, which is the pattern of −0; what is left of a pattern without it
abbrev pub sign_bit : ℕ
sign_bit = 0x8000_0000_0000_0000

abbrev pub magnitude : ℕ → ℕ
magnitude pattern = pattern % sign_bit

-- from −1 to 1, whose pattern this is
abbrev pub is_threshold : ℕ → Bool
is_threshold pattern = leb (magnitude pattern) 0x3FF0_0000_0000_0000

-- from −1,048,576 to 1,048,576
abbrev pub is_coordinate : ℕ → Bool
is_coordinate pattern = leb (magnitude pattern) 0x4130_0000_0000_0000

-- finite and not below zero: below the pattern of infinity, or −0
abbrev pub is_distance : ℕ → Bool
is_distance pattern = ltb pattern 0x7FF0_0000_0000_0000 || eqb pattern sign_bit
