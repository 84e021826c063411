-- Contour by contour along the buffers: how far a pass has come, and what is still to be cut.
use mathlib.Core.Path.{◌≡◌, refl, ap}
use mathlib.Core.Bool.{Bool}
use mathlib.Core.List.{List, [], ◌∷◌, map}
use Prim.Native.Nat.{ℕ, suc, ◌+◌, ◌-◌, ◌≤◌, ◌<◌}
use native.Mathlib.Omega.{arith}
use native.Mathlib.Numerals.{add-one}
use lib.ListN.{length, get_or, take, drop, length-drop, drop_of_length-le}
use lib.Seq.{drop-cons, drop-drop, length-take-le}
use Rattle.geometry.specs.declared.edge_segment.EdgeSegment.{EdgeSegment}
use Rattle.coloring.specs.Places.{total}
use Rattle.coloring.specs.Corners.{Cornered, cornered}
use Rattle.coloring.specs.Outline.{cut}
use Rattle.coloring.specs.Contours.{part}
use Rattle.coloring.specs.Sizes.{sizes}
use Rattle.coloring.proofs.outline.CheckLaws.{total-step}

-- i contours are passed, and they end before the edge `at` of n
pub record ContoursPassed (lengths : List ℕ) (n at i : ℕ) : Type 0 where
  pub to_come : i ≤ length lengths
  pub left : at + total (drop i lengths) ≡ n

module _ (lengths : List ℕ) (n : ℕ) where
  pub none_passed : total lengths ≡ n → ContoursPassed lengths n 0 0
  none_passed h = record { to_come = omega arith; left = omega arith }

  module _ (at i : ℕ) (s : ContoursPassed lengths n at i) (h : i < length lengths) where
    -- the next contour lies within the edges
    pub next_fits : at + get_or lengths i 0 ≤ n
    next_fits = omega (arith, s.left, total-step lengths i h)

    pub next-passed : ContoursPassed lengths n (at + get_or lengths i 0) (i + 1)
    next-passed = record { to_come = omega arith; left = omega (arith, s.left, total-step lengths i h) }

module _ {A : Type 0} (lengths : List ℕ) (xs : List A) (i at : ℕ) where
  pub cut_step : i < length lengths
      → cut (drop i lengths) (drop at xs) ≡ take (get_or lengths i 0) (drop at xs) ∷ cut (drop (i + 1) lengths) (drop (at + get_or lengths i 0) xs)
  unfolding cut
  cut_step h = rw (add-one, drop-cons lengths i 0 h, ← drop-drop (get_or lengths i 0) at xs)

  pub cut_end : length lengths ≤ i → cut (drop i lengths) (drop at xs) ≡ []
  unfolding cut
  cut_end h = rw (drop_of_length-le lengths h)

-- what contours from i on count to, the first of them at edge `at`
abbrev pub left : (List Bool → ℕ) → List ℕ → List Bool → ℕ → ℕ → ℕ
left count lengths flags i at = total (map count (cut (drop i lengths) (drop at flags)))

module _ (count : List Bool → ℕ) (lengths : List ℕ) (flags : List Bool) (i at : ℕ) where
  pub left_end : length lengths ≤ i → left count lengths flags i at ≡ 0
  unfolding total
  left_end h = rw (cut_end lengths flags i at h)

  pub left_step : i < length lengths
      → left count lengths flags i at ≡ count (take (get_or lengths i 0) (drop at flags)) + left count lengths flags (i + 1) (at + get_or lengths i 0)
  unfolding total
  left_step h = rw (cut_step lengths flags i at h)

-- as many pieces as lengths, and of these lengths
module _ {A : Type 0} where
  pub cut-length : (lengths : List ℕ) (xs : List A) → length (cut lengths xs) ≡ length lengths
  unfolding cut
  cut-length [] xs = refl
  cut-length (n ∷ lengths) xs = ap suc (cut-length lengths (drop n xs))

  pub cut-sizes : (lengths : List ℕ) (xs : List A) → total lengths ≤ length xs → sizes (cut lengths xs) ≡ lengths
  unfolding cut total
  cut-sizes [] xs h = refl
  cut-sizes (n ∷ lengths) xs h = rw (length-take-le n xs (omega arith), cut-sizes lengths (drop n xs) (rw length-drop (omega arith)))

-- the contour at i, of the edges from `at` on; as the part up to its end
abbrev pub next_part : List ℕ → List EdgeSegment → List Bool → ℕ → ℕ → Cornered
next_part lengths xs flags at i = record { edges = take (get_or lengths i 0) (drop at xs); corners = take (get_or lengths i 0) (drop at flags) }

pub part-next : (lengths : List ℕ) (contour : Cornered) (at i : ℕ)
    → part contour at (at + get_or lengths i 0) ≡ next_part lengths contour.edges contour.corners at i
part-next lengths contour at i =
    let n : at + get_or lengths i 0 - at ≡ get_or lengths i 0 = omega arith in
    rw n

module _ (lengths : List ℕ) (xs : List EdgeSegment) (flags : List Bool) (i at : ℕ) where
  pub cornered-step : i < length lengths
      → cornered (drop i lengths) (drop at xs) (drop at flags)
      ≡ next_part lengths xs flags at i
      ∷ cornered (drop (i + 1) lengths) (drop (at + get_or lengths i 0) xs) (drop (at + get_or lengths i 0) flags)
  unfolding cornered
  cornered-step h = rw (add-one, drop-cons lengths i 0 h, ← drop-drop (get_or lengths i 0) at xs, ← drop-drop (get_or lengths i 0) at flags)

  pub cornered_end : length lengths ≤ i → cornered (drop i lengths) (drop at xs) (drop at flags) ≡ []
  unfolding cornered
  cornered_end h = rw (drop_of_length-le lengths h)
