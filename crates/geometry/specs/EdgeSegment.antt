-- What the functions of geometry/edge_segment.rs give, case by case, in the source's order of roundings.
use Rattle.std.specs.Prelude.{ℕ, zero, suc, ◌+◌, ◌*◌, ◌≡◌, refl, Bool, false, cond, ◌&&◌, List, [], ◌∷◌, get_or, pos, Float, Option, Some, None}
use Rattle.std.proofs.Common.{arith}
use Rattle.std.specs.Float.Ieee as Ieee
use Rattle.std.specs.Float.{nan, fin, binary64}
use Rattle.std.specs.Float.Ieee.{of_bits}
use Rattle.math.specs.declared.vector2.Vector2.{Vector2}
use Rattle.math.specs.Scalar.{f0, f_half, f1, f3_halves}
use Rattle.math.specs.Vector2.{new, add, sub, mul_scalar, scale, cross, is_nonzero, eq, normalize}
use Rattle.geometry.specs.declared.edge_segment.EdgeSegment.{EdgeSegment}
use Rattle.geometry.specs.declared.edge_segment.EdgeSegment.TheVariants.{Line, Quadratic, Cubic}
use Rattle.geometry.specs.declared.edge_segment.Directions.{Directions}
use Rattle.geometry.specs.declared.edge_segment.Thirds.{Thirds}
use Rattle.geometry.specs.declared.edge_segment.Stored.{Stored}

-- a * (1 - t) + b * t
unfoldable pub vmix : Vector2 → Vector2 → Float → Vector2
vmix a b t = add (mul_scalar a (Ieee.sub binary64 f1 t)) (mul_scalar b t)

-- ---- the constructors: they alone collapse a curve to a simpler kind

abbrev pub line : Vector2 → Vector2 → EdgeSegment
line p0 p1 = Line p0 p1

unfoldable pub quadratic : Vector2 → Vector2 → Vector2 → EdgeSegment
quadratic p0 p1 p2 = cond (Ieee.eq (cross (sub p1 p0) (sub p2 p1)) f0) (Line p0 p2) (Quadratic p0 p1 p2)

-- both turns of a cubic are zeros
unfoldable pub colinear : Vector2 → Vector2 → Vector2 → Vector2 → Bool
colinear p0 p1 p2 p3 =
    let p12 = sub p2 p1 in
    Ieee.eq (cross (sub p1 p0) p12) f0 && Ieee.eq (cross p12 (sub p3 p2)) f0

-- 1.5 * p - 0.5 * q
unfoldable pub control : Vector2 → Vector2 → Vector2
control p q = sub (scale f3_halves p) (scale f_half q)

unfoldable pub cubic : Vector2 → Vector2 → Vector2 → Vector2 → EdgeSegment
cubic p0 p1 p2 p3 =
    let q = control p1 p0 in
    cond (colinear p0 p1 p2 p3) (Line p0 p3)
    (cond (eq q (control p2 p3)) (Quadratic p0 q p3)
    (Cubic p0 p1 p2 p3))

-- ---- an edge's order, points and directions

abbrev pub order : EdgeSegment → ℕ
order (Line p0 p1) = 1
order (Quadratic p0 p1 p2) = 2
order (Cubic p0 p1 p2 p3) = 3

-- the points of a quadratic and of a cubic at t
unfoldable pub quadratic_point : Vector2 → Vector2 → Vector2 → Float → Vector2
quadratic_point a b c t = vmix (vmix a b t) (vmix b c t) t

unfoldable pub cubic_point : Vector2 → Vector2 → Vector2 → Vector2 → Float → Vector2
cubic_point p0 p1 p2 p3 t =
    let p12 = vmix p1 p2 t in
    vmix (vmix (vmix p0 p1 t) p12 t) (vmix p12 (vmix p2 p3 t) t) t

-- the point at t
unfoldable pub point : EdgeSegment → Float → Vector2
point (Line p0 p1) t = vmix p0 p1 t
point (Quadratic p0 p1 p2) t = quadratic_point p0 p1 p2 t
point (Cubic p0 p1 p2 p3) t = cubic_point p0 p1 p2 p3 t

-- the tangent at t
unfoldable pub quadratic_tangent : Vector2 → Vector2 → Vector2 → Float → Vector2
quadratic_tangent p0 p1 p2 t = vmix (sub p1 p0) (sub p2 p1) t

unfoldable pub cubic_tangent : Vector2 → Vector2 → Vector2 → Vector2 → Float → Vector2
cubic_tangent p0 p1 p2 p3 t = vmix (quadratic_tangent p0 p1 p2 t) (quadratic_tangent p1 p2 p3 t) t

-- the direction at t: the tangent or, where both its components are zeros, the way past the next control point
unfoldable pub quadratic_direction : Vector2 → Vector2 → Vector2 → Float → Vector2
quadratic_direction p0 p1 p2 t =
    let tangent = quadratic_tangent p0 p1 p2 t in
    cond (is_nonzero tangent) tangent (sub p2 p0)

unfoldable pub cubic_direction : Vector2 → Vector2 → Vector2 → Vector2 → Float → Vector2
cubic_direction p0 p1 p2 p3 t =
    let tangent = cubic_tangent p0 p1 p2 p3 t in
    cond (is_nonzero tangent) tangent
    (cond (Ieee.eq t f0) (sub p2 p0)
    (cond (Ieee.eq t f1) (sub p3 p1)
    tangent))

unfoldable pub direction : EdgeSegment → Float → Vector2
direction (Line p0 p1) t = sub p1 p0
direction (Quadratic p0 p1 p2) t = quadratic_direction p0 p1 p2 t
direction (Cubic p0 p1 p2 p3) t = cubic_direction p0 p1 p2 p3 t

-- the unit directions in which an edge starts and ends, normalize(direction(0)) and normalize(direction(1)), each with
-- whether its length was 0
unfoldable pub unit_directions : EdgeSegment → Directions
unfolding direction
unit_directions e = record { start = normalize (direction e f0) false; end = normalize (direction e f1) false }

-- a line has one, p1 - p0 both times: a stand-in twice or not at all
pub line_has_one : (e : EdgeSegment) → order e ≡ 1 → (unit_directions e).end ≡ (unit_directions e).start
unfolding unit_directions direction
line_has_one (Line p0 p1) h = refl
line_has_one (Quadratic p0 p1 p2) h = absurd (omega arith)
line_has_one (Cubic p0 p1 p2 p3) h = absurd (omega arith)

-- ---- the split in three

-- the numbers 2, 3, 4, 5 and 9, by their bit patterns
abbrev pub f2 : Float
f2 = of_bits binary64 0x4000_0000_0000_0000

abbrev pub f3 : Float
f3 = of_bits binary64 0x4008_0000_0000_0000

abbrev pub f4 : Float
f4 = of_bits binary64 0x4010_0000_0000_0000

abbrev pub f5 : Float
f5 = of_bits binary64 0x4014_0000_0000_0000

abbrev pub f9 : Float
f9 = of_bits binary64 0x4022_0000_0000_0000

-- the patterns are those of the numbers m * 2 ^ e
pub numbers : (f2 ≡ fin false 1 (pos 1)) × (f3 ≡ fin false 3 (pos 0)) × (f4 ≡ fin false 1 (pos 2)) × (f5 ≡ fin false 5 (pos 0)) × (f9 ≡ fin false 9 (pos 0))
unfolding of_bits
numbers = (refl, refl, refl, refl, refl)

-- the quotients of the source, each rounded once
abbrev pub third : Float
third = Ieee.div binary64 f1 f3

abbrev pub two_thirds : Float
two_thirds = Ieee.div binary64 f2 f3

abbrev pub four_ninths : Float
four_ninths = Ieee.div binary64 f4 f9

abbrev pub five_ninths : Float
five_ninths = Ieee.div binary64 f5 f9

-- a line: each end is computed, at 0 and at 1 too
unfoldable pub split_line : Vector2 → Vector2 → Thirds
split_line p0 p1 = record {
  first = Line (vmix p0 p1 f0) (vmix p0 p1 third);
  second = Line (vmix p0 p1 third) (vmix p0 p1 two_thirds);
  third = Line (vmix p0 p1 two_thirds) (vmix p0 p1 f1);
}

unfoldable pub split_quadratic : Vector2 → Vector2 → Vector2 → Thirds
split_quadratic p0 p1 p2 =
    let a = quadratic_point p0 p1 p2 third in
    let b = quadratic_point p0 p1 p2 two_thirds in
    record {
      first = Quadratic p0 (vmix p0 p1 third) a;
      second = Quadratic a (vmix (vmix p0 p1 five_ninths) (vmix p1 p2 four_ninths) f_half) b;
      third = Quadratic b (vmix p1 p2 two_thirds) p2;
    }

-- the control point between p and q at t or, where they are equal, the end of the edge, which is one of the two
unfoldable pub control_between : Vector2 → Vector2 → Float → Vector2 → Vector2
control_between p q t end = cond (eq p q) end (vmix p q t)

unfoldable pub split_cubic : Vector2 → Vector2 → Vector2 → Vector2 → Thirds
split_cubic p0 p1 p2 p3 =
    let a = cubic_point p0 p1 p2 p3 third in
    let b = cubic_point p0 p1 p2 p3 two_thirds in
    record {
      first = Cubic p0 (control_between p0 p1 third p0) (quadratic_point p0 p1 p2 third) a;
      second = Cubic a
          (vmix (quadratic_point p0 p1 p2 third) (quadratic_point p1 p2 p3 third) two_thirds)
          (vmix (quadratic_point p0 p1 p2 two_thirds) (quadratic_point p1 p2 p3 two_thirds) third)
          b;
      third = Cubic b (quadratic_point p1 p2 p3 two_thirds) (control_between p2 p3 two_thirds p3) p3;
    }

unfoldable pub split_in_thirds : EdgeSegment → Thirds
split_in_thirds (Line p0 p1) = split_line p0 p1
split_in_thirds (Quadratic p0 p1 p2) = split_quadratic p0 p1 p2
split_in_thirds (Cubic p0 p1 p2 p3) = split_cubic p0 p1 p2 p3

-- ---- the stored form: a kind number and eight places, x then y of each control point in order

-- unused places are +0
unfoldable pub to_stored : EdgeSegment → Stored
to_stored (Line p0 p1) = record { kind = 1; points = p0.x ∷ p0.y ∷ p1.x ∷ p1.y ∷ f0 ∷ f0 ∷ f0 ∷ f0 ∷ [] }
to_stored (Quadratic p0 p1 p2) = record { kind = 2; points = p0.x ∷ p0.y ∷ p1.x ∷ p1.y ∷ p2.x ∷ p2.y ∷ f0 ∷ f0 ∷ [] }
to_stored (Cubic p0 p1 p2 p3) = record { kind = 3; points = p0.x ∷ p0.y ∷ p1.x ∷ p1.y ∷ p2.x ∷ p2.y ∷ p3.x ∷ p3.y ∷ [] }

-- control point k of the eight places
abbrev pub point_at : List Float → ℕ → Vector2
point_at ps k = new (get_or ps (2 * k) nan) (get_or ps (2 * k + 1) nan)

-- what a stored form stands for: an edge, or the number of its refusal (SCOPE, Refusals)
pub data DecodedAnswer : Type 0 where
  edge : EdgeSegment → DecodedAnswer
  refused : ℕ → DecodedAnswer

abbrev pub decoded_answer : Option EdgeSegment → DecodedAnswer
decoded_answer (Some e) = edge e
decoded_answer None = refused 5

-- the edge of a kind and its places, those beyond its control points ignored; an unknown kind is 5
unfoldable pub from_stored : ℕ → List Float → DecodedAnswer
from_stored zero ps = refused 5
from_stored (suc zero) ps = edge (Line (point_at ps 0) (point_at ps 1))
from_stored (suc (suc zero)) ps = edge (Quadratic (point_at ps 0) (point_at ps 1) (point_at ps 2))
from_stored (suc (suc (suc zero))) ps = edge (Cubic (point_at ps 0) (point_at ps 1) (point_at ps 2) (point_at ps 3))
from_stored (suc (suc (suc (suc n)))) ps = refused 5

-- an edge is what its stored form stands for
pub stored_again : (e : EdgeSegment) → from_stored (to_stored e).kind (to_stored e).points ≡ edge e
unfolding to_stored from_stored
stored_again (Line p0 p1) = refl
stored_again (Quadratic p0 p1 p2) = refl
stored_again (Cubic p0 p1 p2 p3) = refl
