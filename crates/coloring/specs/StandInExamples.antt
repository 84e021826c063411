-- The stand-ins of an outline, computed from the definitions: the same by every colouring. They refute programs that
-- count something else.
use Rattle.std.specs.Prelude.{◌≡◌, refl, [], ◌∷◌, map, replicate}
use Rattle.std.specs.Float.Ieee as Ieee
use Rattle.math.specs.Sqrt.{sqrt_of}
use Rattle.math.specs.Vector2.{add, sub, mul_scalar, div_scalar, dot, cross, squared_length, length_of, is_nonzero, normalize}
use Rattle.geometry.specs.EdgeSegment.{vmix, quadratic_tangent, quadratic_direction, cubic_tangent, cubic_direction, to_stored, from_stored}
use Rattle.geometry.specs.EdgeSegment.{direction, point, split_in_thirds, split_quadratic, split_cubic}
use Rattle.geometry.specs.Examples.{n0, n1, n2, tiny}
use Rattle.coloring.specs.declared.outline.Counts.{Counts}
use Rattle.coloring.specs.Answers.{gives}
use Rattle.coloring.specs.Corners.{search_corners, corner_count, first_corner}
use Rattle.coloring.specs.PairOrder.{valid_distance}
use Rattle.coloring.specs.Outline.{Outline, Result, outline, result, contours}
use Rattle.coloring.specs.EdgeColoring.{edge_coloring, edge_coloring_simple, edge_coloring_ink_trap, collect_splines, edge_coloring_by_distance}
use Rattle.coloring.specs.Examples.{eighth}

-- a line of length 2 ^ -600, and one straight up, whose direction truly is (0, 1); an empty contour; a quadratic whose
-- last two points are 2 ^ -600 apart, and a cubic whose points are one, which are split at their corner
abbrev dotted : Outline
dotted =
    outline (2 ∷ 0 ∷ 2 ∷ []) (1 ∷ 1 ∷ 2 ∷ 3 ∷ [])
    (n0 ∷ n0 ∷ tiny ∷ n0 ∷ n0 ∷ n0 ∷ n0 ∷ n0
    ∷ n0 ∷ n0 ∷ n0 ∷ n2 ∷ n0 ∷ n0 ∷ n0 ∷ n0
    ∷ n0 ∷ n0 ∷ n2 ∷ n0 ∷ n2 ∷ tiny ∷ n0 ∷ n0
    ∷ n2 ∷ n1 ∷ n2 ∷ n1 ∷ n2 ∷ n1 ∷ n2 ∷ n1 ∷ [])

-- by contour: both ends of the line, none of the true one; the end of the quadratic, both of the cubic. Refutes one
-- that counts once an edge (1, 0, 2), starts only (1, 0, 1), a true (0, 1) too (4, 0, 3), or tests the vector (0, 0, 2)
pub by_contour : map (λ edges. (search_corners eighth edges).stand_ins) (contours dotted) ≡ (2 ∷ 0 ∷ 3 ∷ [])
unfolding search_corners contours quadratic_direction quadratic_tangent cubic_direction cubic_tangent vmix from_stored add sub mul_scalar is_nonzero
    normalize length_of
    squared_length div_scalar sqrt_of Ieee.add Ieee.sub Ieee.mul Ieee.div Ieee.neg Ieee.ne Ieee.eq Ieee.of_bits
by_contour = refl

abbrev room : Result
room = result (replicate 3 9) (replicate 8 9) (replicate 64 n1) (replicate 8 9)

abbrev five : Counts
five = record { contours = 3; edges = 8; splines = 3; stand_ins = 5 }

-- refutes one that counts the first contour only, the edges after the split, or by one strategy only
pub by_every_strategy :
    ((edge_coloring_simple dotted eighth 0 room).answer ≡ gives five)
    × ((edge_coloring_ink_trap dotted eighth 0 room).answer ≡ gives five)
    × ((collect_splines dotted eighth room).answer ≡ gives five)
    × ((edge_coloring_by_distance dotted eighth 0 (n1 ∷ n1 ∷ n1 ∷ []) room).answer ≡ gives five)
unfolding edge_coloring valid_distance corner_count first_corner quadratic_direction quadratic_tangent cubic_direction cubic_tangent vmix to_stored
    from_stored add sub
    mul_scalar is_nonzero dot cross div_scalar squared_length length_of normalize sqrt_of split_in_thirds split_quadratic split_cubic
    Ieee.add Ieee.sub Ieee.mul Ieee.div Ieee.neg Ieee.ne Ieee.le Ieee.lt Ieee.eq Ieee.of_bits
by_every_strategy = (refl, refl, refl, refl)

-- the unit square with the point (1, 0) twice: four corners, so that the ink trap measures every edge
abbrev doubled : Outline
doubled =
    outline (5 ∷ []) (replicate 5 1)
    (n0 ∷ n0 ∷ n1 ∷ n0 ∷ n0 ∷ n0 ∷ n0 ∷ n0
    ∷ n1 ∷ n0 ∷ n1 ∷ n0 ∷ n0 ∷ n0 ∷ n0 ∷ n0
    ∷ n1 ∷ n0 ∷ n1 ∷ n1 ∷ n0 ∷ n0 ∷ n0 ∷ n0
    ∷ n1 ∷ n1 ∷ n0 ∷ n1 ∷ n0 ∷ n0 ∷ n0 ∷ n0
    ∷ n0 ∷ n1 ∷ n0 ∷ n0 ∷ n0 ∷ n0 ∷ n0 ∷ n0 ∷ [])

-- refutes one that counts the chords without length too, four of the doubled point
pub chords_not_counted : (edge_coloring_ink_trap doubled eighth 0 (result (9 ∷ []) (replicate 5 9) (replicate 40 n1) (replicate 5 9))).answer
    ≡ gives (record { contours = 1; edges = 5; splines = 4; stand_ins = 2 })
unfolding edge_coloring corner_count first_corner direction point vmix to_stored from_stored add sub mul_scalar dot cross div_scalar squared_length length_of
    normalize sqrt_of Ieee.add Ieee.sub Ieee.mul Ieee.div Ieee.neg Ieee.ne Ieee.le Ieee.lt Ieee.of_bits
chords_not_counted = refl
