-- The pairs of splines as the code holds them, and what is asked of each of a list.
use Rattle.std.specs.Prelude.{◌≢◌, List, [], ◌∷◌, ℕ, ◌<◌}
use Rattle.coloring.specs.Sequence.{Pair}
use Rattle.coloring.specs.PairOrder.{SplinePair}
use Rattle.coloring.specs.declared.pair_order.GraphEdge.{GraphEdge}

-- the pair, and with how far apart its splines are
abbrev pub pair_of : GraphEdge → Pair
pair_of e = record { a = e.a; b = e.b }

abbrev pub spline_pair : GraphEdge → SplinePair
spline_pair e = record { pair = pair_of e; distance = e.distance.0 }

-- a property of each element
unfoldable pub Each : {A : Type 0} → (A → Type 0) → List A → Type 0
Each P [] = Unit {0}
Each P (x ∷ xs) = P x × Each P xs

-- two different of n splines
pub record Two (n : ℕ) (p : Pair) : Type 0 where
  pub first : p.a < n
  pub second : p.b < n
  pub different : p.a ≢ p.b

-- each pair of a list is
abbrev pub TwoEach : ℕ → List GraphEdge → Type 0
TwoEach n edges = Each (λ e. Two n (pair_of e)) edges
