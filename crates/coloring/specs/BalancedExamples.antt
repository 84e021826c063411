-- Balanced teardrops, computed from the definitions: 47 edges by both divisions, in every strategy. They refute
-- programs that divide in another way, or drop what the settings ask for.
use Rattle.std.specs.Prelude.{ℕ, ◌≡◌, refl, replicate, Float}
use mathlib.Core.List.{List, [], ◌∷◌, ◌++◌, flatten}
use Rattle.std.specs.Float.Ieee as Ieee
use Rattle.math.specs.Sqrt.{sqrt_of}
use Rattle.math.specs.Vector2.{add, sub, mul_scalar, div_scalar, dot, cross, squared_length, length_of, is_nonzero, normalize}
use Rattle.geometry.specs.EdgeSegment.{vmix, quadratic_tangent, quadratic_direction, direction, to_stored, from_stored}
use Rattle.geometry.specs.Examples.{n0, n1}
use Rattle.coloring.specs.declared.settings.Strategy.TheVariants.{Simple, InkTrap}
use Rattle.coloring.specs.declared.settings.Marking.{Marking}
use Rattle.coloring.specs.declared.settings.Marking.TheVariants.{Colors, Numbers, Distances}
use Rattle.coloring.specs.declared.settings.Division.{Division}
use Rattle.coloring.specs.declared.settings.Division.TheVariants.{Source, Balanced}
use Rattle.coloring.specs.Corners.{corner_count, first_corner}
use Rattle.coloring.specs.PairOrder.{valid_distance}
use Rattle.coloring.specs.SplineColors.{offer_splines}
use Rattle.coloring.specs.SplineTable.{offer}
use Rattle.coloring.specs.Teardrop.{runs}
use Rattle.coloring.specs.Outline.{Outline, outline, result}
use Rattle.coloring.specs.EdgeColoring.{edge_coloring, settings_of}
use Rattle.coloring.specs.Examples.{eighth}

-- 15 of a, so many of b and of c
abbrev in_runs : ℕ → ℕ → ℕ → ℕ → ℕ → List ℕ
in_runs a b c middle last = replicate 15 a ++ (replicate middle b ++ replicate last c)

-- refutes a balanced rule that gives the tie to the first run or the last, or takes one from each
pub runs_of_47 : (runs Source 1 2 3 47 ≡ in_runs 1 2 3 16 16) × (runs Balanced 1 2 3 47 ≡ in_runs 1 2 3 17 15)
unfolding runs
runs_of_47 = (refl, refl)

-- 46 times the line (0, 0) to (1, 0), and a quadratic that ends straight up: one corner, at the first edge
abbrev drop : Outline
drop =
    outline (47 ∷ []) (replicate 46 1 ++ (2 ∷ []))
    (flatten (replicate 46 (n0 ∷ n0 ∷ n1 ∷ n0 ∷ n0 ∷ n0 ∷ n0 ∷ n0 ∷ [])) ++ (n0 ∷ n0 ∷ n1 ∷ n0 ∷ n1 ∷ n1 ∷ n0 ∷ n0 ∷ []))

abbrev colors_by : Division → Marking → List Float → List ℕ
colors_by division marking distances =
    (edge_coloring (settings_of division marking eighth) drop distances (result (9 ∷ []) (replicate 47 9) (replicate 376 n1) (replicate 47 9))).buffers.colors

-- refutes one that divides by one rule whatever is asked, in every strategy or in one of them
pub in_every_strategy :
    (colors_by Source (Colors Simple 0) [] ≡ in_runs 5 7 3 16 16)
    × (colors_by Balanced (Colors Simple 0) [] ≡ in_runs 5 7 3 17 15)
    × (colors_by Source (Colors InkTrap 0) [] ≡ in_runs 5 7 3 16 16)
    × (colors_by Balanced (Colors InkTrap 0) [] ≡ in_runs 5 7 3 17 15)
    × (colors_by Source Numbers [] ≡ in_runs 0 255 1 16 16)
    × (colors_by Balanced Numbers [] ≡ in_runs 0 255 1 17 15)
    × (colors_by Source (Distances 0) (n0 ∷ []) ≡ in_runs 3 7 6 16 16)
    × (colors_by Balanced (Distances 0) (n0 ∷ []) ≡ in_runs 3 7 6 17 15)
unfolding edge_coloring valid_distance offer_splines offer corner_count first_corner quadratic_direction quadratic_tangent vmix to_stored from_stored add sub
    mul_scalar
    is_nonzero dot cross div_scalar squared_length length_of normalize sqrt_of direction
    Ieee.add Ieee.sub Ieee.mul Ieee.div Ieee.neg Ieee.ne Ieee.le Ieee.lt Ieee.eq Ieee.of_bits
in_every_strategy = (refl, refl, refl, refl, refl, refl, refl, refl)
