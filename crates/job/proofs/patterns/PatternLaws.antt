-- Numbers in a file: their bound, their places, and patterns that are no NaN's.
use mathlib.Core.Path.{◌≡◌, refl, sym, ap, subst, ◌∙◌}
use mathlib.Core.Bool.{Bool, false, not}
use mathlib.Core.List.{List, [], ◌∷◌}
use Prim.Native.Nat.{ℕ, zero, suc, ◌+◌, ◌*◌, ◌%◌, ◌^◌, ◌<◌, ◌≤◌}
use native.Mathlib.Omega.{arith}
use lib.Pow.{pow-add}
use lib.ListN.{length, take, drop, get_or, length-drop, length-map}
use lib.Seq.{drop-drop, length-take-le, take-take}
use Rattle.std.proofs.lemmas.List.{drop-take}
use Rattle.std.specs.Int.{w16, w64, from_le_bytes}
use Rattle.std.specs.List.{list_all}
use Rattle.std.specs.Simd.{first_chunks}
use borrow.Author.Tests.{le-ltb}
use lib.Dec.{T}
use lib.Ieee.{Float, binary64, is_nan, nan_bits, of_bits, to_bits}
use lib.Ieee.Bits.{nan_bits_is, nan_bits_above, to_bits-of_bits}
use Rattle.coloring.specs.Lists.{all}
use Rattle.job.specs.Patterns.{number, words, floats, float_bytes, sign_bit}

-- ---- the number of some bytes

abbrev pub AreBytes : List ℕ → Type 0
AreBytes bytes = (i : ℕ) → get_or bytes i 0 < 256

pub number-below : (bytes : List ℕ) → AreBytes bytes → number bytes < 2 ^ (8 * length bytes)
unfolding number
number-below [] h = omega arith
number-below (b ∷ bytes) h =
    let e : 8 * suc (length bytes) ≡ 8 + 8 * length bytes = omega arith in
    rw (e, pow-add 2 8 (8 * length bytes)) (omega (arith, h 0, number-below bytes (λ i. h (suc i))))

-- ---- a pattern that is no NaN's

no_nan_pattern : (b : ℕ) → b % 9223372036854775808 ≤ 9218868437227405312 → nan_bits binary64 b ≡ false
no_nan_pattern b h = nan_bits_above binary64 b ∙ le-ltb _ _ h

-- it comes back from its float
pub pattern_back : (b : ℕ) → b < 2 ^ 64 → b % sign_bit ≤ 9218868437227405312 → to_bits binary64 (of_bits binary64 b) ≡ b
pattern_back b h low =
    let no_nan : is_nan (of_bits binary64 b) ≡ false = sym (nan_bits_is binary64 b) ∙ no_nan_pattern b low in
    to_bits-of_bits binary64 b h (subst (λ (x : Bool). T (not x)) (sym no_nan) tt)

-- ---- many numbers, one after another

pub words-length : (n : ℕ) (bytes : List ℕ) → length (words n bytes) ≡ n
unfolding words
words-length zero bytes = refl
words-length (suc n) bytes = ap suc (words-length n (drop 8 bytes))

-- ---- as the code reads them: of eight bytes each

pub eight : (word : List ℕ) → length word ≡ 8 → from_le_bytes w64 word ≡ number word
unfolding number
eight (a ∷ b ∷ c ∷ d ∷ e ∷ f ∷ g ∷ h ∷ []) long = omega arith
eight [] long = absurd (omega arith)
eight (a ∷ []) long = absurd (omega arith)
eight (a ∷ b ∷ []) long = absurd (omega arith)
eight (a ∷ b ∷ c ∷ []) long = absurd (omega arith)
eight (a ∷ b ∷ c ∷ d ∷ []) long = absurd (omega arith)
eight (a ∷ b ∷ c ∷ d ∷ e ∷ []) long = absurd (omega arith)
eight (a ∷ b ∷ c ∷ d ∷ e ∷ f ∷ []) long = absurd (omega arith)
eight (a ∷ b ∷ c ∷ d ∷ e ∷ f ∷ g ∷ []) long = absurd (omega arith)
eight (a ∷ b ∷ c ∷ d ∷ e ∷ f ∷ g ∷ h ∷ i ∷ rest) long = absurd (omega arith)

pub eight_taken : (bytes : List ℕ) → 8 ≤ length bytes → from_le_bytes w64 (take 8 bytes) ≡ number (take 8 bytes)
eight_taken bytes h = eight (take 8 bytes) (length-take-le 8 bytes h)

pub two : (bytes : List ℕ) → length bytes ≡ 2 → from_le_bytes w16 (get_or bytes 0 0 ∷ get_or bytes 1 0 ∷ []) ≡ number bytes
unfolding number
two (a ∷ b ∷ []) long = omega arith
two [] long = absurd (omega arith)
two (a ∷ []) long = absurd (omega arith)
two (a ∷ b ∷ c ∷ rest) long = absurd (omega arith)

pub all_words : (test : ℕ → Bool) (n : ℕ) (bytes : List ℕ) → 8 * n ≤ length bytes
    → list_all (λ word. test (from_le_bytes w64 word)) (first_chunks 8 n bytes) ≡ all test (words n bytes)
unfolding words
all_words test zero bytes h = refl
all_words test (suc n) bytes h =
    rw (eight_taken bytes (omega arith), all_words test n (drop 8 bytes) (rw length-drop (omega arith)))

-- a part that holds so many has them all
pub words-taken : (n : ℕ) (bytes : List ℕ) → 8 * n ≤ length bytes → words n (take (8 * n) bytes) ≡ words n bytes
unfolding words
words-taken zero bytes h = refl
words-taken (suc n) bytes h =
    let e : 8 * suc n ≡ 8 + 8 * n = omega arith in
    rw (e, take-take 8 (8 + 8 * n) bytes (omega arith), drop-take 8 (8 * n) bytes, words-taken n (drop 8 bytes) (rw length-drop (omega arith)))

pub word_at : (n i : ℕ) (bytes : List ℕ) → i < n → 8 * n ≤ length bytes
    → from_le_bytes w64 (get_or (first_chunks 8 n bytes) i []) ≡ number (take 8 (drop (8 * i) bytes))
word_at zero i bytes h whole = absurd (omega arith)
word_at (suc n) zero bytes h whole = eight_taken bytes (omega arith)
word_at (suc n) (suc i) bytes h whole =
    let e : 8 + 8 * i ≡ 8 * suc i = omega arith in
    word_at n i (drop 8 bytes) (omega arith) (rw length-drop (omega arith)) ∙ rw (drop-drop (8 * i) 8 bytes, e)

pub floats-length : (n : ℕ) (bytes : List ℕ) → length (floats (words n bytes)) ≡ n
unfolding floats
floats-length n bytes = length-map (words n bytes) (of_bits binary64) ∙ words-length n bytes

pub float_bytes_length : (xs : List Float) → length (float_bytes xs) ≡ 8 * length xs
unfolding float_bytes
float_bytes_length [] = refl
float_bytes_length (x ∷ xs) = omega (arith, float_bytes_length xs)

pub floats_at : (n i : ℕ) (bytes : List ℕ) (d : Float) → i < n → get_or (floats (words n bytes)) i d ≡ of_bits binary64 (number (take 8 (drop (8 * i) bytes)))
unfolding floats words
floats_at zero i bytes d h = absurd (omega arith)
floats_at (suc n) zero bytes d h = refl
floats_at (suc n) (suc i) bytes d h =
    let e : 8 + 8 * i ≡ 8 * suc i = omega arith in
    floats_at n i (drop 8 bytes) d (omega arith) ∙ rw (drop-drop (8 * i) 8 bytes, e)
