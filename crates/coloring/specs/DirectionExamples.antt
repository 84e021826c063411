-- The directions of an outline and the corners of a contour by them, computed from the definitions. Each refutes a
-- program that does something else.
use Rattle.std.specs.Prelude.{ℕ, ◌≡◌, refl, List, [], ◌∷◌, replicate, Float}
use Rattle.std.specs.Float.Ieee as Ieee
use Rattle.std.specs.Float.{nan}
use Rattle.math.specs.Sqrt.{sqrt_of}
use Rattle.math.specs.Vector2.{new, add, sub, mul_scalar, div_scalar, dot, cross, squared_length, length_of, is_nonzero, normalize}
use Rattle.geometry.specs.EdgeSegment.{vmix, quadratic_tangent, quadratic_direction, unit_directions, from_stored}
use Rattle.geometry.specs.declared.edge_segment.EdgeSegment.{EdgeSegment}
use Rattle.geometry.specs.declared.edge_segment.EdgeSegment.TheVariants.{Line, Quadratic}
use Rattle.geometry.specs.Examples.{n0, n1, n2, n3, tiny}
use Rattle.coloring.specs.Answers.{gives, refusal}
use Rattle.coloring.specs.Fill.{FillOutcome, fill_outcome}
use Rattle.coloring.specs.Corners.{identify_corners, directions_of, ends_in, corners_between}
use Rattle.coloring.specs.Outline.{Outline, outline}
use Rattle.coloring.specs.Directions.{DirectionBuffers, direction_buffers, edge_directions}
use Rattle.coloring.specs.Examples.{eighth}

-- a quadratic that starts to the right and ends downwards; an empty contour; a line of length 2 ^ -600. What an edge
-- does not use is no number.
abbrev two : Outline
two =
    outline (1 ∷ 0 ∷ 1 ∷ []) (2 ∷ 1 ∷ [])
    (n0 ∷ n0 ∷ n2 ∷ n0 ∷ n2 ∷ Ieee.neg n2 ∷ nan ∷ nan ∷ n0 ∷ n0 ∷ tiny ∷ n0 ∷ replicate 4 nan)

-- buffers of so many places and marks
abbrev room : ℕ → ℕ → DirectionBuffers
room places marks = direction_buffers (replicate places n3) (replicate marks 9)

-- refutes one that writes nothing, the first contour only, a start twice or another order, one that clears the rest,
-- and one that marks no stand-in, or one an edge
pub two_edges : edge_directions two (room 10 5)
    ≡ fill_outcome (gives 2) (direction_buffers (n1 ∷ n0 ∷ n0 ∷ Ieee.neg n1 ∷ n0 ∷ n1 ∷ n0 ∷ n1 ∷ n3 ∷ n3 ∷ []) (0 ∷ 0 ∷ 1 ∷ 1 ∷ 9 ∷ []))
unfolding edge_directions quadratic_direction quadratic_tangent vmix from_stored add sub mul_scalar is_nonzero normalize length_of squared_length
    div_scalar sqrt_of Ieee.add Ieee.sub Ieee.mul Ieee.div Ieee.neg Ieee.le Ieee.lt Ieee.ne Ieee.eq Ieee.of_bits
two_edges = refl

-- refutes one that refuses where they just fit, and one that writes what fits
pub exactly_two : (edge_directions two (room 8 4)).answer ≡ gives 2
unfolding edge_directions from_stored Ieee.neg Ieee.le Ieee.lt Ieee.of_bits
exactly_two = refl

pub one_place_short : (edge_directions two (room 7 4) ≡ fill_outcome (refusal 11) (room 7 4))
    × (edge_directions two (room 8 3) ≡ fill_outcome (refusal 11) (room 8 3))
unfolding edge_directions from_stored Ieee.neg Ieee.le Ieee.lt Ieee.of_bits
one_place_short = (refl, refl)

-- refutes one that looks for room before it looks at the outline: each refusal, with the fault of the next
abbrev none : DirectionBuffers
none = direction_buffers [] []

abbrev refused : List ℕ → List ℕ → List Float → FillOutcome DirectionBuffers
refused lengths kinds points = edge_directions (outline lengths kinds points) none

pub direction_refusals :
    (refused (257 ∷ []) [] [] ≡ fill_outcome (refusal 4) none)
    × (refused (1 ∷ []) (0 ∷ []) [] ≡ fill_outcome (refusal 8) none)
    × (refused (1 ∷ []) (0 ∷ []) (replicate 8 nan) ≡ fill_outcome (refusal 5) none)
    × (refused (1 ∷ []) (1 ∷ []) (replicate 8 nan) ≡ fill_outcome (refusal 7) none)
    × (refused [] [] [] ≡ fill_outcome (gives 0) none)
unfolding edge_directions from_stored Ieee.neg Ieee.le Ieee.lt Ieee.of_bits
direction_refusals = (refl, refl, refl, refl, refl)

-- ---- corners

-- a curve from the right to downwards, and lines down, left and up: all joints but the one after the curve are corners
abbrev hook : List EdgeSegment
hook =
    Quadratic (new n0 n0) (new n2 n0) (new n2 (Ieee.neg n2))
    ∷ Line (new n2 (Ieee.neg n2)) (new n2 (Ieee.neg n3))
    ∷ Line (new n2 (Ieee.neg n3)) (new n0 (Ieee.neg n3))
    ∷ Line (new n0 (Ieee.neg n3)) (new n0 n0)
    ∷ []

-- refutes one that compares starts with starts, or that has no joint of the last edge and the first
pub smooth_joint : (corners_between eighth (ends_in (directions_of hook)) ≡ (0 ∷ 2 ∷ 3 ∷ [])) × (identify_corners eighth hook ≡ (0 ∷ 2 ∷ 3 ∷ []))
unfolding corners_between identify_corners unit_directions quadratic_direction quadratic_tangent vmix add sub mul_scalar is_nonzero normalize length_of
    squared_length div_scalar dot cross sqrt_of Ieee.add Ieee.sub Ieee.mul Ieee.div Ieee.neg Ieee.le Ieee.lt Ieee.ne Ieee.eq Ieee.of_bits
smooth_joint = (refl, refl)
