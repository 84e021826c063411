-- Worked examples of by-distance colouring without outlines, computed from the definitions. Each says which wrong
-- program it refutes.
use Rattle.std.specs.Prelude.{◌≡◌, refl, true, false, List, [], ◌∷◌, map, ℕ, Float, pos, replicate}
use Rattle.std.specs.Float.Ieee as Ieee
use Rattle.std.specs.Float.{nan, inf, fin}
use Rattle.math.specs.Scalar.{f0, f1}
use Rattle.coloring.specs.Answers.{refusal, all_pass, first_refusal}
use Rattle.coloring.specs.SplineTable.{kept, declined}
use Rattle.coloring.specs.SplineTable.{offer}
use Rattle.coloring.specs.Sequence.{Pair}
use Rattle.coloring.specs.PairOrder.{valid_distance, pair_order}
use Rattle.coloring.specs.SecondDegree.{starting_color}
use Rattle.coloring.specs.SplineColors.{zero_pairs, offer_splines, color_splines, check_splines, splines_colored, color_splines_into}

abbrev minus0 : Float
minus0 = fin true 0 (pos 0)

abbrev pairs : List ℕ → List ℕ → List Pair
pairs [] seconds = []
pairs (a ∷ firsts) [] = []
pairs (a ∷ firsts) (b ∷ seconds) = record { a = a; b = b } ∷ pairs firsts seconds

-- ---- P7: the square's four splines, distance 0 beside and 1 across, seed 0

abbrev pub square_distances : List Float
square_distances = f0 ∷ f1 ∷ f0 ∷ f0 ∷ f1 ∷ f0 ∷ []

-- refutes a declined offer that leaves its walk's colours, and equal distances taken in the other order
pub square_colors : color_splines 4 square_distances 0 ≡ (0 ∷ 1 ∷ 2 ∷ 1 ∷ [])
unfolding offer_splines offer Ieee.lt Ieee.eq Ieee.of_bits
square_colors = refl

-- refutes a walk with another bound, zero pairs that are offered, and offers in another order
pub square_answers :
    ((offer_splines 4 square_distances 0).pairs ≡ pairs (0 ∷ 1 ∷ []) (2 ∷ 3 ∷ []))
    × ((offer_splines 4 square_distances 0).ends.answers ≡ (kept 0 ∷ declined 16 ∷ []))
unfolding offer_splines offer Ieee.lt Ieee.eq Ieee.of_bits
square_answers = (refl, refl)

-- ---- the order

-- refutes a program that compares bit patterns: -0 is a zero pair, and equals 0
pub minus_zero_pair : zero_pairs (pair_order 3 (f0 ∷ f1 ∷ minus0 ∷ [])) ≡ pairs (0 ∷ 1 ∷ []) (1 ∷ 2 ∷ [])
unfolding pair_order zero_pairs Ieee.lt Ieee.eq Ieee.of_bits
minus_zero_pair = refl

-- refutes a sort that is not stable
pub equal_by_number : map (λ p. p.pair) (pair_order 3 (f1 ∷ f1 ∷ f0 ∷ [])) ≡ pairs (1 ∷ 0 ∷ 0 ∷ []) (2 ∷ 1 ∷ 2 ∷ [])
unfolding pair_order Ieee.lt Ieee.of_bits
equal_by_number = refl

-- refutes a check that lets a NaN or an infinity pass, or refuses -0
pub valid-distances : map valid_distance (minus0 ∷ f1 ∷ fin true 1 (pos 0) ∷ inf false ∷ inf true ∷ nan ∷ [])
    ≡ (true ∷ true ∷ false ∷ false ∷ false ∷ false ∷ [])
unfolding valid_distance Ieee.lt Ieee.le Ieee.of_bits
valid-distances = refl

-- ---- the starting colours

-- refutes a draw of seed mod 3 without the spline's number: all free, spline 2, seed 5: (2 + 2) mod 3, and 1 is left
pub all_free : starting_color 7 2 5 ≡ record { value = 1; seed = 1 }
unfolding starting_color
all_free = refl

-- refutes a program that takes the draw itself for the colour: {0, 2} gives 2 for the draw 0, and 0 for the draw 1
pub two_free : (starting_color 5 0 6 ≡ record { value = 2; seed = 3 }) × (starting_color 5 0 7 ≡ record { value = 0; seed = 3 })
unfolding starting_color
two_free = (refl, refl)

-- refutes a program that draws where nothing is left to choose: {2} and the empty set keep the seed
pub no_draw : (starting_color 4 0 7 ≡ record { value = 2; seed = 7 }) × (starting_color 0 0 7 ≡ record { value = 0; seed = 7 })
unfolding starting_color
no_draw = (refl, refl)

-- refutes a program that goes on to a fourth colour: four splines that all touch leave the last none, so it takes 0,
-- and meets the first
pub four_touch_lem : color_splines 4 (f0 ∷ f0 ∷ f0 ∷ f0 ∷ f0 ∷ f0 ∷ []) 0 ≡ (0 ∷ 1 ∷ 2 ∷ 0 ∷ [])
unfolding offer_splines Ieee.lt Ieee.eq Ieee.of_bits
four_touch_lem = refl

-- Four splines in a row, each at distance zero from the next, seed 4: starting colours 1, 0, 1, 2. Refutes a program
-- that makes no offers, draws from the whole seed for each spline, starts with the lowest free colours, offers the zero
-- pairs and does not enter them (`square_answers` refutes one that does both), or takes equal distances in the other
-- order.
pub four_in_a_row : color_splines 4 (f0 ∷ f1 ∷ f1 ∷ f0 ∷ f1 ∷ f0 ∷ []) 4 ≡ (1 ∷ 0 ∷ 2 ∷ 0 ∷ [])
unfolding offer_splines offer Ieee.lt Ieee.eq Ieee.of_bits
four_in_a_row = refl

-- refutes a program that needs a pair, or ignores the seed: no splines, and one
pub no_pairs : (color_splines 0 [] 5 ≡ []) × (color_splines 1 [] 5 ≡ (2 ∷ []))
unfolding offer_splines
no_pairs = (refl, refl)

-- ---- the refusals, and their order

-- refutes one that refuses always: the square's distances pass
pub square_passes : first_refusal (check_splines 4 square_distances) ≡ all_pass
unfolding first_refusal valid_distance Ieee.le Ieee.lt Ieee.of_bits
square_passes = refl

-- refutes one that counts the distances first: 65 splines and no distance give 4
pub splines-first : (first_refusal (check_splines 65 []) ≡ refusal 4) × (first_refusal (check_splines 64 []) ≡ refusal 8)
unfolding first_refusal
splines-first = (refl, refl)

-- refutes one that writes and then refuses, leaves what stood there, or draws without the spline's number
pub written_where_passed :
    (color_splines_into (nan ∷ []) 3 (9 ∷ 9 ∷ []) ≡ splines_colored (refusal 9) (9 ∷ 9 ∷ []))
    × (color_splines_into (f1 ∷ []) 3 (9 ∷ 9 ∷ []) ≡ splines_colored all_pass (0 ∷ 2 ∷ []))
unfolding color_splines_into offer valid_distance Ieee.le Ieee.lt Ieee.eq Ieee.of_bits
written_where_passed = (refl, refl)

-- refutes one that has 8 for too many distances
pub distances-many : first_refusal (check_splines 0 (replicate 2017 f0)) ≡ refusal 4
unfolding first_refusal
distances-many = refl

-- refutes one that looks at the distances before their count
pub count-first : (first_refusal (check_splines 3 (nan ∷ [])) ≡ refusal 8) × (first_refusal (check_splines 2 (nan ∷ [])) ≡ refusal 9)
unfolding first_refusal valid_distance Ieee.le Ieee.lt Ieee.of_bits
count-first = (refl, refl)
