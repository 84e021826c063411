-- P8, P9 and P10 (SCOPE, Examples) and the unit directions of some edges, computed from the definitions.
use Rattle.std.specs.Prelude.{◌≡◌, refl, true, false, pos, negsuc, Float}
use Rattle.std.specs.Float.Ieee as Ieee
use Rattle.std.specs.Float.{fin}
use Rattle.math.specs.Sqrt.{sqrt_of}
use Rattle.math.specs.Vector2.{new, add, sub, mul_scalar, div_scalar, squared_length, length_of, is_nonzero, normalized, normalize}
use Rattle.math.specs.declared.vector2.Normalized.{Normalized}
use Rattle.geometry.specs.declared.edge_segment.EdgeSegment.TheVariants.{Line, Quadratic, Cubic}
use Rattle.geometry.specs.declared.edge_segment.Directions.{Directions}
use Rattle.geometry.specs.declared.edge_segment.Thirds.{Thirds}
use Rattle.geometry.specs.EdgeSegment.{vmix, split_line, split_in_thirds}
use Rattle.geometry.specs.EdgeSegment.{quadratic_tangent, quadratic_direction, cubic_tangent, cubic_direction, unit_directions}

-- the numbers 0, -0, 1, 2, 3, 2 ^ -600 and 2 ^ 600
abbrev pub n0 : Float
n0 = fin false 0 (pos 0)

abbrev pub negative0 : Float
negative0 = fin true 0 (pos 0)

abbrev pub n1 : Float
n1 = fin false 1 (pos 0)

abbrev pub n2 : Float
n2 = fin false 1 (pos 1)

abbrev pub n3 : Float
n3 = fin false 3 (pos 0)

abbrev pub tiny : Float
tiny = fin false 1 (negsuc 599)

abbrev huge : Float
huge = fin false 1 (pos 600)

-- P8: the line (0, 0) to (3, 0) splits at x = 1 and 2 exactly
abbrev pub unit_lines : Thirds
unit_lines = record {
  first = Line (new n0 n0) (new n1 n0);
  second = Line (new n1 n0) (new n2 n0);
  third = Line (new n2 n0) (new n3 n0);
}

pub split_exactly : split_in_thirds (Line (new n0 n0) (new n3 n0)) ≡ unit_lines
unfolding split_in_thirds split_line vmix add mul_scalar Ieee.add Ieee.sub Ieee.mul Ieee.div Ieee.of_bits
split_exactly = refl

-- P9: a line from (-0, 0) to (3, 0) splits with first x +0
pub split_from_negative_zero : split_in_thirds (Line (new negative0 n0) (new n3 n0)) ≡ unit_lines
unfolding split_in_thirds split_line vmix add mul_scalar Ieee.add Ieee.sub Ieee.mul Ieee.div Ieee.of_bits
split_from_negative_zero = refl

-- ---- unit directions

abbrev pub right : Normalized
right = normalized (new n1 n0) false

abbrev pub down : Normalized
down = normalized (new n0 (Ieee.neg n1)) false

-- the direction (0, 1), and what stands in for one without length
abbrev pub up : Normalized
up = normalized (new n0 n1) false

abbrev pub stand_in : Normalized
stand_in = normalized (new n0 n1) true

-- P10: the direction (2 ^ -600, 0) has length 0, so it becomes (0, 1), a stand-in
pub tiny-direction : (length_of (new tiny n0) ≡ n0) × (normalize (new tiny n0) false ≡ stand_in)
unfolding normalize length_of squared_length div_scalar sqrt_of Ieee.add Ieee.mul Ieee.div Ieee.ne Ieee.of_bits
tiny-direction = (refl, refl)

-- where zero is allowed it becomes (0, 0), and the answer says so too
pub tiny_or_zero : normalize (new tiny n0) true ≡ normalized (new n0 n0) true
unfolding normalize length_of squared_length div_scalar sqrt_of Ieee.add Ieee.mul Ieee.div Ieee.ne Ieee.of_bits
tiny_or_zero = refl

-- refutes one that tells a stand-in by the vector: what is (0, 1), and what becomes it, is none
pub true_direction : (normalize (new n0 n1) false ≡ up) × (normalize (new n0 n2) false ≡ up)
unfolding normalize length_of squared_length div_scalar sqrt_of Ieee.add Ieee.mul Ieee.div Ieee.ne Ieee.of_bits
true_direction = (refl, refl)

-- what overflows becomes (0, 0), and is none
pub huge-direction : normalize (new huge n0) true ≡ normalized (new n0 n0) false
unfolding normalize length_of squared_length div_scalar sqrt_of Ieee.add Ieee.mul Ieee.div Ieee.ne Ieee.of_bits
huge-direction = refl

abbrev pub from_to : Normalized → Normalized → Directions
from_to start end = record { start = start; end = end }

-- refutes one that copies the start: a quadratic that starts to the right and ends downwards
pub starts_and_ends : unit_directions (Quadratic (new n0 n0) (new n2 n0) (new n2 (Ieee.neg n2))) ≡ from_to right down
unfolding unit_directions quadratic_direction quadratic_tangent vmix add sub mul_scalar is_nonzero
    normalize length_of squared_length div_scalar sqrt_of Ieee.add Ieee.sub Ieee.mul Ieee.div Ieee.neg Ieee.ne Ieee.eq Ieee.of_bits
starts_and_ends = refl

-- refutes one without the source's way out: a cubic whose first two control points are one starts towards the third
pub starts_to_the_next : unit_directions (Cubic (new n0 n0) (new n0 n0) (new n2 n0) (new n2 (Ieee.neg n2))) ≡ from_to right down
unfolding unit_directions cubic_direction cubic_tangent quadratic_tangent vmix add sub mul_scalar is_nonzero
    normalize length_of squared_length div_scalar sqrt_of Ieee.add Ieee.sub Ieee.mul Ieee.div Ieee.neg Ieee.ne Ieee.eq Ieee.of_bits
starts_to_the_next = refl

-- an edge whose points are one, and a line of length 2 ^ -600, have the stand-in twice
pub no_length : (unit_directions (Cubic (new n2 n1) (new n2 n1) (new n2 n1) (new n2 n1)) ≡ from_to stand_in stand_in)
    × (unit_directions (Line (new n0 n0) (new tiny n0)) ≡ from_to stand_in stand_in)
unfolding unit_directions cubic_direction cubic_tangent quadratic_tangent vmix add sub mul_scalar is_nonzero
    normalize length_of squared_length div_scalar sqrt_of Ieee.add Ieee.sub Ieee.mul Ieee.div Ieee.neg Ieee.ne Ieee.eq Ieee.of_bits
no_length = (refl, refl)

-- curves with a stand-in at one end alone: the control points there are 2 ^ -600 apart
pub at_one_end : (unit_directions (Quadratic (new n0 n0) (new tiny n0) (new n2 n0)) ≡ from_to stand_in right)
    × (unit_directions (Quadratic (new n0 n0) (new n2 n0) (new n2 tiny)) ≡ from_to right stand_in)
unfolding unit_directions quadratic_direction quadratic_tangent vmix add sub mul_scalar is_nonzero
    normalize length_of squared_length div_scalar sqrt_of Ieee.add Ieee.sub Ieee.mul Ieee.div Ieee.neg Ieee.ne Ieee.eq Ieee.of_bits
at_one_end = (refl, refl)
