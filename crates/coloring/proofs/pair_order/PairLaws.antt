-- The pairs of splines: how they are written row by row, how many they are, and that each is of two different splines.
use mathlib.Core.Path.{◌≡◌, refl, sym, ap, ◌∙◌}
use mathlib.Core.List.{List, [], ◌∷◌, ◌++◌, append-nil, append_assoc, map, map-append}
use Prim.Native.Nat.{ℕ, zero, suc, ◌+◌, ◌-◌, ◌*◌, ◌/◌, ◌<◌, ◌≤◌}
use native.Mathlib.Nat.{suc-mul, mul-suc, mul-le-mul}
use native.Mathlib.Numerals.{add-one}
use native.Mathlib.Omega.{arith}
use lib.ListN.{length, get_or, take, drop, set, length-append, length-set}
use lib.Seq.{take-suc-set, take_all}
use lib.Ieee.{Float, nan}
use Rattle.coloring.specs.declared.pair_order.GraphEdge.{GraphEdge}
use Rattle.coloring.specs.Sequence.{Pair}
use Rattle.coloring.specs.PairOrder.{pairs_with, pairs_from, with_distances}
use Rattle.coloring.specs.Pairs.{spline_pair, Each, Two}
use Rattle.coloring.proofs.Lists.{drop-next}
use Rattle.coloring.proofs.pair_order.EachLaws.{each_append}

-- ---- row by row

-- the pairs from (i, j) on
pub pairs_on : ℕ → ℕ → ℕ → List Pair
pairs_on n i j = pairs_with i j (n - j) ++ pairs_from (i + 1) (n - (i + 1))

module _ (n : ℕ) where
  pub row_starts : (i : ℕ) → i < n → pairs_from i (n - i) ≡ pairs_on n i (i + 1)
  unfolding pairs_on pairs_from
  row_starts i h =
      let more : n - i ≡ suc (n - (i + 1)) = omega arith in
      rw (more, pairs_from, ← add-one i)

  pub row_goes_on : (i j : ℕ) → j < n → pairs_on n i j ≡ record { a = i; b = j } ∷ pairs_on n i (j + 1)
  unfolding pairs_on pairs_with
  row_goes_on i j h =
      let more : n - j ≡ suc (n - (j + 1)) = omega arith in
      rw (more, pairs_with, ← add-one j)

  pub row_ends : (i j : ℕ) → n ≤ j → pairs_on n i j ≡ pairs_from (i + 1) (n - (i + 1))
  unfolding pairs_on pairs_with
  row_ends i j h =
      let none : n - j ≡ 0 = omega arith in
      rw none

  pub rows_end : (i : ℕ) → n ≤ i → pairs_from i (n - i) ≡ []
  unfolding pairs_from
  rows_end i h =
      let none : n - i ≡ 0 = omega arith in
      rw none

-- ---- writing

-- the first k pairs are written, and those that are left make the whole
pub record Written (n : ℕ) (distances : List Float) (edges : List GraphEdge) (k : ℕ) (left : List Pair) : Type 0 where
  pub size : length edges ≡ length distances
  pub room : k + length left ≡ length distances
  pub whole : with_distances (pairs_from 0 n) distances ≡ map spline_pair (take k edges) ++ with_distances left (drop k distances)

pub written_none : (n : ℕ) (distances : List Float) (edges : List GraphEdge) → length edges ≡ length distances
    → length (pairs_from 0 n) ≡ length distances → Written n distances edges 0 (pairs_from 0 n)
written_none n distances edges e f = record { size = e; room = omega arith; whole = refl }

module _ (n : ℕ) (distances : List Float) (edges : List GraphEdge) (k : ℕ) where
  pub write_next : (p : Pair) (left : List Pair) (e : GraphEdge) → spline_pair e ≡ record { pair = p; distance = get_or distances k nan }
      → Written n distances edges k (p ∷ left) → Written n distances (set edges k e) (k + 1) left
  unfolding with_distances
  write_next p left e is w =
      record {
        size = length-set edges k e ∙ w.size;
        room = omega (arith, w.room);
        whole =
            w.whole
            ∙ rw (
              drop-next distances k nan (omega (arith, w.room)),
              add-one,
              take-suc-set edges k e (omega (arith, w.room, w.size)),
              map-append,
              append_assoc,
              is,
            );
      }

  pub written_all : Written n distances edges k [] → map spline_pair edges ≡ with_distances (pairs_from 0 n) distances
  unfolding with_distances
  written_all w = sym (w.whole ∙ rw (append-nil, take_all k edges (omega (arith, w.room, w.size))))

-- ---- how many

with-length : (i j k : ℕ) → length (pairs_with i j k) ≡ k
unfolding pairs_with
with-length i j zero = refl
with-length i j (suc k) = ap suc (with-length i (suc j) k)

from-twice : (i k : ℕ) → 2 * length (pairs_from i (suc k)) ≡ suc k * k
unfolding pairs_from
from-twice i zero = refl
from-twice i (suc k) =
    let rest = from-twice (suc i) k in
    let here = length-append (pairs_with i (suc i) (suc k)) (pairs_from (suc i) (suc k)) in
    omega (arith, with-length i (suc i) (suc k), suc-mul (suc k) (suc k), mul-suc (suc k) k)

pub pairs-count : (n : ℕ) → length (pairs_from 0 n) ≡ n * (n - 1) / 2
unfolding pairs_from
pairs-count zero = refl
pairs-count (suc n) =
    let twice = from-twice 0 n in
    let less : suc n - 1 ≡ n = omega arith in
    rw less (omega arith)

pub pairs_most : (n : ℕ) → n ≤ 64 → n * (n - 1) / 2 ≤ 2016
pairs_most n h =
    let less : n - 1 ≤ 63 = omega arith in
    let few : n * (n - 1) ≤ 64 * 63 = mul-le-mul h less in
    omega arith

-- ---- two different splines each

module _ (n : ℕ) where
  two-with : (i j k : ℕ) → i < j → j + k ≤ n → Each (Two n) (pairs_with i j k)
  unfolding Each pairs_with
  two-with i j zero h e = tt
  two-with i j (suc k) h e =
      (record { first = omega arith; second = omega arith; different = omega arith }, two-with i (suc j) k (omega arith) (omega arith))

  pub two_from : (i k : ℕ) → i + k ≤ n → Each (Two n) (pairs_from i k)
  unfolding Each pairs_from
  two_from i zero h = tt
  two_from i (suc k) h =
      each_append (Two n) (pairs_with i (suc i) k) _ (two-with i (suc i) k (omega arith) (omega arith)) (two_from (suc i) k (omega arith))
