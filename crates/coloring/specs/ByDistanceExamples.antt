-- Worked examples of by-distance colouring of outlines, computed from the definitions: P7 whole, and some that refute
-- wrong programs.
use Rattle.std.specs.Prelude.{ℕ, ◌≡◌, refl, Bool, true, false, List, [], ◌∷◌, map}
use Rattle.std.specs.Float.Ieee as Ieee
use Rattle.math.specs.Sqrt.{sqrt_of}
use Rattle.math.specs.Vector2.{sub, dot, cross, div_scalar, squared_length, length_of, normalize}
use Rattle.geometry.specs.EdgeSegment.{direction, to_stored, from_stored}
use Rattle.geometry.specs.EdgeColor.{bits_of}
use Rattle.coloring.specs.Lists.{range}
use Rattle.coloring.specs.SplineTable.{offer}
use Rattle.coloring.specs.PairOrder.{valid_distance}
use Rattle.coloring.specs.SplineColors.{offer_splines}
use Rattle.coloring.specs.SplineColorsExamples.{square_distances}
use Rattle.coloring.specs.Corners.{corner_count, first_corner}
use Rattle.coloring.specs.declared.settings.Division.TheVariants.{Source}
use Rattle.coloring.specs.declared.settings.Marking.TheVariants.{Distances}
use Rattle.coloring.specs.Splines.{paint_contours}
use Rattle.coloring.specs.Values.{spline_color, no_spline, middle_value}
use Rattle.coloring.specs.EdgeColoring.{edge_coloring, collect_splines, edge_coloring_by_distance}
use Rattle.coloring.specs.Examples.{square_outline, four_edges, eighth}

-- ---- P7: the square by distance, seed 0; its splines' colours and offers are in SplineColorsExamples

-- the edges' splines, and their colours
pub square_edges :
    ((collect_splines square_outline eighth four_edges).buffers.colors ≡ (0 ∷ 1 ∷ 2 ∷ 3 ∷ []))
    × ((edge_coloring_by_distance square_outline eighth 0 square_distances four_edges).buffers.colors ≡ (3 ∷ 6 ∷ 5 ∷ 6 ∷ []))
unfolding square_outline edge_coloring valid_distance corner_count first_corner offer_splines offer direction sub dot cross div_scalar squared_length
    length_of normalize
    sqrt_of to_stored from_stored Ieee.add Ieee.sub Ieee.mul Ieee.div Ieee.neg Ieee.ne Ieee.le Ieee.lt Ieee.eq Ieee.of_bits
square_edges = (refl, refl)

-- ---- numbers and colours

-- two contours: a teardrop of three edges, and one without a corner
abbrev two_contours : List (List Bool)
two_contours = (true ∷ false ∷ false ∷ []) ∷ (false ∷ false ∷ []) ∷ []

-- refutes one that numbers each contour from 0, or gives the White edge of a teardrop a spline
pub numbers_go_on : paint_contours {A = ℕ} Source no_spline (range 0 3) two_contours ≡ ((0 ∷ 255 ∷ 1 ∷ []) ∷ (2 ∷ 2 ∷ []) ∷ [])
unfolding paint_contours corner_count first_corner range
numbers_go_on = refl

-- refutes one that colours the White edge
pub white_stays : paint_contours {A = ℕ} Source (middle_value (Distances 0)) (map (λ color. bits_of (spline_color color)) (2 ∷ 1 ∷ 0 ∷ [])) two_contours
    ≡ ((5 ∷ 7 ∷ 6 ∷ []) ∷ (3 ∷ 3 ∷ []) ∷ [])
unfolding paint_contours corner_count first_corner
white_stays = refl
