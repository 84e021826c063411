-- The checks of an outline: the sum of lengths, the coordinates of the edges.
use mathlib.Core.Path.{◌≡◌, refl, sym}
use mathlib.Core.Bool.{true}
use mathlib.Core.List.{List, [], ◌∷◌}
use Prim.Native.Nat.{ℕ, ◌+◌, ◌≤◌, ◌<◌}
use native.Mathlib.Omega.{arith}
use native.Mathlib.Numerals.{add-one}
use lib.Dec.{leb}
use borrow.Author.Tests.{leb-true}
use lib.Ieee.{Float}
use lib.ListN.{length, take, drop, get_or, drop_of_length-le}
use lib.Seq.{drop-cons, take-take}
use Rattle.std.specs.List.{sum, list_all, zip}
use Rattle.std.specs.Simd.{first_chunks}
use Rattle.std.proofs.lemmas.List.Recursion.{is_sum_by}
use Rattle.coloring.specs.Bools.{and_left, and_right}
use Rattle.coloring.specs.Places.{total}
use Rattle.coloring.specs.Outline.{known_kind, in_range, used_places, coordinates_fit}

-- the library's sum
pub sum-total : (numbers : List ℕ) → sum numbers ≡ total numbers
unfolding total
sum-total numbers = sym (is_sum_by total (λ n. n) refl (λ _ _. refl) numbers)

pub total-step : (lengths : List ℕ) (i : ℕ) → i < length lengths → total (drop i lengths) ≡ get_or lengths i 0 + total (drop (i + 1) lengths)
unfolding total
total-step lengths i h = rw (drop-cons lengths i 0, add-one)

pub total_end : (lengths : List ℕ) (i : ℕ) → length lengths ≤ i → total (drop i lengths) ≡ 0
unfolding total
total_end lengths i h = rw (drop_of_length-le lengths h)

-- a known kind uses at most eight places
few_places : (kind : ℕ) → known_kind kind ≡ true → used_places kind ≤ 8
few_places kind e = omega (arith, leb-true kind 3 (and_right (leb 1 kind) (leb kind 3) e))

-- the edges' kinds and places in pairs
pub fit_pairs : (kinds : List ℕ) (points : List Float) → list_all known_kind kinds ≡ true
    → list_all (λ (p : ℕ × List Float). list_all in_range (take (used_places p.0) p.1)) (zip kinds (first_chunks 8 (length kinds) points))
    ≡ coordinates_fit kinds points
unfolding coordinates_fit
fit_pairs [] points e = refl
fit_pairs (kind ∷ kinds) points e =
    let here = few_places kind (and_left (known_kind kind) (list_all known_kind kinds) e) in
    rw (
      take-take (used_places kind) 8 points here,
      fit_pairs kinds (drop 8 points) (and_right (known_kind kind) (list_all known_kind kinds) e),
    )
