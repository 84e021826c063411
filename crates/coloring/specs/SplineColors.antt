-- By-distance colouring without outlines: from n splines, their distances and a seed to the splines' colours, after
-- coloring/by_distance.rs from "Sorted list of graph edges" to the end of the offers (SCOPE, leaf 7). Spline colours 0,
-- 1, 2 are Yellow, Cyan, Magenta.
use Rattle.std.specs.Prelude.{◌≡◌, Bool, true, false, ◌&&◌, List, [], ◌∷◌, map, ℕ, ◌*◌, ◌-◌, ◌/◌, ◌≤◌, leb, eqb, Float, length, replicate}
use Rattle.std.specs.Float.Ieee.{eq}
use Rattle.math.specs.Scalar.{f0}
use Rattle.coloring.specs.Limits.{max_splines, max_distances}
use Rattle.coloring.specs.Answers.{Answer, refusal, Check, all_pass, unless, in_order}
use Rattle.coloring.specs.SplineTable.{Table, table_of, enter_pair, sound}
use Rattle.coloring.specs.Sequence.{Pair, Run, run}
use Rattle.coloring.specs.PairOrder.{distances_valid, SplinePair, pair_order}
use Rattle.coloring.specs.Pairs.{TwoEach}
use Rattle.coloring.specs.declared.pair_order.GraphEdge.{GraphEdge}
use Rattle.coloring.specs.SecondDegree.{color_second_degree_graph}

-- ---- zero pairs

-- a distance of zero; -0 is one
abbrev pub is_zero : SplinePair → Bool
is_zero p = eq p.distance f0

-- the pairs at the head of the order that are at distance zero
unfoldable pub zero_pairs : List SplinePair → List Pair
unfolding eq
zero_pairs [] = []
zero_pairs (p ∷ order) = elim (is_zero p) [ true ↦ p.pair ∷ zero_pairs order | false ↦ [] ]

-- the others, from the first that is not at distance zero on
unfoldable pub other_pairs : List SplinePair → List Pair
unfolding eq
other_pairs [] = []
other_pairs (p ∷ order) = elim (is_zero p) [ true ↦ other_pairs order | false ↦ map (λ q. q.pair) (p ∷ order) ]

-- each pair entered, without an offer
unfoldable pub enter_pairs : ℕ → List Pair → List ℕ → List ℕ
enter_pairs n [] edge_matrix = edge_matrix
enter_pairs n (p ∷ pairs) edge_matrix = enter_pairs n pairs (enter_pair n edge_matrix p.a p.b 1)

-- ---- the colours

-- the zero pairs entered, and the starting colours
unfoldable pub start_table : ℕ → List Pair → ℕ → Table
unfolding enter_pairs color_second_degree_graph
start_table n zeros seed =
    let edge_matrix = enter_pairs n zeros (replicate (n * n) 0) in
    table_of (color_second_degree_graph n edge_matrix seed) edge_matrix

-- the table at the start, and the answers to the offers of the other pairs in order, with the table after the last
pub record Offers : Type 0 where
  pub start : Table
  pub pairs : List Pair
  pub ends : Run

-- those of n splines whose pairs stand in this order
unfoldable pub offer_in_order : ℕ → List SplinePair → ℕ → Offers
unfolding zero_pairs other_pairs start_table run
offer_in_order n order seed =
    let start = start_table n (zero_pairs order) seed in
    record { start = start; pairs = other_pairs order; ends = run start (other_pairs order) }

-- and of n splines, nearest first
unfoldable pub offer_splines : ℕ → List Float → ℕ → Offers
unfolding pair_order offer_in_order
offer_splines n distances seed = offer_in_order n (pair_order n distances) seed

-- the splines' colours
abbrev pub color_in_order : ℕ → List SplinePair → ℕ → List ℕ
color_in_order n order seed = (offer_in_order n order seed).ends.table.coloring

abbrev pub color_splines : ℕ → List Float → ℕ → List ℕ
color_splines n distances seed = (offer_splines n distances seed).ends.table.coloring

-- ---- the checks before it

-- too many splines or distances; one distance for each pair; each of them finite and not below zero
abbrev pub check_splines : ℕ → List Float → List Check
check_splines splines distances =
    unless 4 (leb splines max_splines && leb (length distances) max_distances)
    ∷ unless 8 (eqb (length distances) (splines * (splines - 1) / 2))
    ∷ unless 9 (distances_valid distances)
    ∷ []

-- the answer of `color_splines`, and its buffer at exit
pub record SplinesColored : Type 0 where
  pub answer : Answer Unit
  pub coloring : List ℕ

abbrev pub splines_colored : Answer Unit → List ℕ → SplinesColored
splines_colored answer coloring = record { answer = answer; coloring = coloring }

-- the colours of as many splines as the buffer has places; or the first refusal, and the buffer as it came
unfoldable pub color_splines_into : List Float → ℕ → List ℕ → SplinesColored
unfolding in_order offer_splines
color_splines_into distances seed old =
    in_order (check_splines (length old) distances) (λ number. splines_colored (refusal number) old)
    (splines_colored all_pass (color_splines (length old) distances seed))

-- ---- what the functions behind it ask of each other

-- where pairs may be offered one after the other: a sound table of at most 64 splines, and pairs of them
pub record OfferableAll (coloring edge_matrix : List ℕ) (edges : List GraphEdge) : Type 0 where
  pub few : length coloring ≤ max_splines
  pub entries : length edge_matrix ≡ length coloring * length coloring
  pub is_sound : sound (table_of coloring edge_matrix) ≡ true
  pub pairs : TwoEach (length coloring) edges

-- where n splines are coloured: pairs of them, and none entered
pub record Ordered (n : ℕ) (edge_matrix : List ℕ) (order : List GraphEdge) : Type 0 where
  pub few : n ≤ max_splines
  pub pairs : TwoEach n order
  pub none : edge_matrix ≡ replicate (n * n) 0
