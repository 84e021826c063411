-- The pairs of splines in the order in which by-distance colouring takes them, after "Sorted list of graph edges" of
-- coloring/by_distance.rs (SCOPE, leaf 7).
use Rattle.std.specs.Prelude.{◌≡◌, Bool, true, false, ◌&&◌, List, [], ◌∷◌, ◌++◌, ℕ, zero, suc, ◌-◌, ◌*◌, ◌/◌, ◌≤◌, length, Float}
use Rattle.std.specs.Float.{inf}
use Rattle.std.specs.Float.Ieee.{le, lt}
use Rattle.math.specs.Scalar.{f0}
use Rattle.coloring.specs.Limits.{max_splines}
use Rattle.coloring.specs.Lists.{all}
use Rattle.coloring.specs.Sequence.{Pair}

-- ---- the distances

-- finite, and not below zero; -0 passes, a NaN does not
unfoldable pub valid_distance : Float → Bool
unfolding le lt
valid_distance d = le f0 d && lt d (inf false)

abbrev pub distances_valid : List Float → Bool
distances_valid distances = all valid_distance distances

-- what is coloured: at most 64 splines, and a distance for each pair of them
pub record ValidDistances (n : ℕ) (distances : List Float) : Type 0 where
  pub few : n ≤ max_splines
  pub count : length distances ≡ n * (n - 1) / 2
  pub valid : distances_valid distances ≡ true

-- ---- the pairs

-- the pairs of spline i with the k splines from j on
unfoldable pub pairs_with : ℕ → ℕ → ℕ → List Pair
pairs_with i j zero = []
pairs_with i j (suc k) = record { a = i; b = j } ∷ pairs_with i (suc j) k

-- the pairs of the k splines from i on, by the first and then by the second
unfoldable pub pairs_from : ℕ → ℕ → List Pair
unfolding pairs_with
pairs_from i zero = []
pairs_from i (suc k) = pairs_with i (suc i) k ++ pairs_from (suc i) k

-- a pair of splines, and how far apart they are
pub record SplinePair : Type 0 where
  pub pair : Pair
  pub distance : Float

-- each pair with its distance; both come by (i, j)
unfoldable pub with_distances : List Pair → List Float → List SplinePair
with_distances [] distances = []
with_distances (p ∷ pairs) [] = []
with_distances (p ∷ pairs) (d ∷ distances) = record { pair = p; distance = d } ∷ with_distances pairs distances

-- ---- the order

-- x goes before the first that is not below it
unfoldable pub insert_by : {A : Type 0} → (A → Float) → A → List A → List A
unfolding lt
insert_by key x [] = x ∷ []
insert_by key x (y ∷ ys) = elim (lt (key y) (key x)) [ true ↦ y ∷ insert_by key x ys | false ↦ x ∷ y ∷ ys ]

-- by the key, and equal ones as they came
unfoldable pub sort_by : {A : Type 0} → (A → Float) → List A → List A
unfolding insert_by
sort_by key [] = []
sort_by key (x ∷ xs) = insert_by key x (sort_by key xs)

-- the pairs of n splines, nearest first; the distances are given by (i, j)
unfoldable pub pair_order : ℕ → List Float → List SplinePair
unfolding pairs_from with_distances sort_by
pair_order n distances = sort_by (λ p. p.distance) (with_distances (pairs_from 0 n) distances)
