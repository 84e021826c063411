-- Numbers and floats as bytes: what was read from bytes is written as the same bytes.
use mathlib.Core.Path.{◌≡◌, refl, sym, ap, ◌∙◌}
use mathlib.Core.Bool.{Bool, true, false, ◌||◌}
use mathlib.Core.List.{List, [], ◌∷◌, ◌++◌}
use Prim.Native.Nat.{ℕ, zero, suc, ◌+◌, ◌*◌, ◌/◌, ◌%◌, ◌^◌, ◌<◌, ◌≤◌}
use native.Mathlib.Omega.{arith}
use lib.ListN.{length, take, drop, length-drop}
use lib.Seq.{length-take-le, get_or-drop, take-add}
use lib.Ieee.{Float, binary64, of_bits, to_bits}
use borrow.Author.Tests.{leb-true, ltb-true, eqb-true}
use lib.Dec.{ltb, eqb}
use Rattle.coloring.specs.Bools.{and_left, and_right}
use Rattle.coloring.specs.Lists.{all}
use Rattle.job.specs.Patterns.{number, little, words, floats, float_bytes, sign_bit, is_coordinate, is_distance}
use Rattle.job.proofs.patterns.PatternLaws.{AreBytes, number-below, pattern_back}

-- ---- parts of bytes are bytes

pub are_taken : (n : ℕ) (bytes : List ℕ) → AreBytes bytes → AreBytes (take n bytes)
are_taken zero bytes h i = omega arith
are_taken (suc n) [] h i = omega arith
are_taken (suc n) (b ∷ bytes) h zero = h 0
are_taken (suc n) (b ∷ bytes) h (suc i) = are_taken n bytes (λ k. h (suc k)) i

pub are_dropped : (n : ℕ) (bytes : List ℕ) → AreBytes bytes → AreBytes (drop n bytes)
are_dropped n bytes h i = rw get_or-drop (h (n + i))

-- ---- a number

little-number : (bytes : List ℕ) → AreBytes bytes → little (length bytes) (number bytes) ≡ bytes
unfolding number little
little-number [] h = refl
little-number (b ∷ bytes) h =
    let low : (b + 256 * number bytes) % 256 ≡ b = omega (arith, h 0) in
    let high : (b + 256 * number bytes) / 256 ≡ number bytes = omega (arith, h 0) in
    rw (low, high, little-number bytes (λ i. h (suc i)))

pub little-taken : (n : ℕ) (bytes : List ℕ) → AreBytes bytes → n ≤ length bytes → little n (number (take n bytes)) ≡ take n bytes
little-taken n bytes h k = ap (λ (m : ℕ). little m (number (take n bytes))) (sym (length-take-le n bytes k))
    ∙ little-number (take n bytes) (are_taken n bytes h)

-- ---- floats

no_floats : float_bytes [] ≡ []
unfolding float_bytes
no_floats = refl

float_then : (x : Float) (xs : List Float) → float_bytes (x ∷ xs) ≡ little 8 (to_bits binary64 x) ++ float_bytes xs
unfolding float_bytes
float_then x xs = refl

module _ (test : ℕ → Bool) (finite : (b : ℕ) → test b ≡ true → b % sign_bit ≤ 9218868437227405312) where
  floats-back : (n : ℕ) (bytes : List ℕ) → AreBytes bytes → 8 * n ≤ length bytes → all test (words n bytes) ≡ true
      → float_bytes (floats (words n bytes)) ≡ take (8 * n) bytes
  unfolding words floats
  floats-back zero bytes h k t = no_floats
  floats-back (suc n) bytes h k t =
      let p = number (take 8 bytes) in
      let eight : length (take 8 bytes) ≡ 8 = length-take-le 8 bytes (omega arith) in
      let below : p < 2 ^ 64 = rw eight at (number-below (take 8 bytes) (are_taken 8 bytes h)) in
      let back : to_bits binary64 (of_bits binary64 p) ≡ p = pattern_back p below (finite p (and_left (test p) (all test (words n (drop 8 bytes))) t)) in
      let rest = floats-back n (drop 8 bytes) (are_dropped 8 bytes h) (rw length-drop (omega arith))
      (and_right (test p) (all test (words n (drop 8 bytes))) t) in
      let e : 8 * suc n ≡ 8 + 8 * n = omega arith in
      rw (float_then, back, little-taken 8 bytes h (omega arith), rest, e) (sym (take-add 8 (8 * n) bytes))

pub coordinates-back : (n : ℕ) (bytes : List ℕ) → AreBytes bytes → 8 * n ≤ length bytes → all is_coordinate (words n bytes) ≡ true
    → float_bytes (floats (words n bytes)) ≡ take (8 * n) bytes
coordinates-back = floats-back is_coordinate (λ b h. omega (arith, leb-true (b % sign_bit) 4697254411347427328 h))

distance_finite : (b : ℕ) → is_distance b ≡ true → b % sign_bit ≤ 9218868437227405312
distance_finite b h = go (ltb b 9218868437227405312) refl h
  where
    go : (c : Bool) → ltb b 9218868437227405312 ≡ c → (c || eqb b sign_bit) ≡ true → b % sign_bit ≤ 9218868437227405312
    go true e k = omega (arith, ltb-true b 9218868437227405312 e)
    go false e k = omega (arith, eqb-true b sign_bit k)

pub distances-back : (n : ℕ) (bytes : List ℕ) → AreBytes bytes → 8 * n ≤ length bytes → all is_distance (words n bytes) ≡ true
    → float_bytes (floats (words n bytes)) ≡ take (8 * n) bytes
distances-back = floats-back is_distance distance_finite
