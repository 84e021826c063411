-- What the functions of math/vector2.rs give, in IEEE 754's binary64, each operation rounded once and in the source's
-- order. Each definition has its function's name; the source's operators have plain ones.
use Rattle.std.specs.Prelude.{Bool, true, false, cond, ◌&&◌, ◌||◌, Float}
use Rattle.std.specs.Float.Ieee as Ieee
use Rattle.std.specs.Float.{binary64}
use Rattle.math.specs.declared.vector2.Vector2.{Vector2}
use Rattle.math.specs.declared.vector2.Normalized.{Normalized}
use Rattle.math.specs.Scalar.{f0, f1}
use Rattle.math.specs.Sqrt.{sqrt_of}

-- ---- made of numbers

abbrev pub new : Float → Float → Vector2
new x y = record { x = x; y = y }

abbrev pub splat : Float → Vector2
splat v = new v v

-- the source's ZERO
abbrev pub zero_vector : Vector2
zero_vector = new f0 f0

-- ---- the operators

unfoldable pub add : Vector2 → Vector2 → Vector2
add a b = new (Ieee.add binary64 a.x b.x) (Ieee.add binary64 a.y b.y)

unfoldable pub sub : Vector2 → Vector2 → Vector2
sub a b = new (Ieee.sub binary64 a.x b.x) (Ieee.sub binary64 a.y b.y)

unfoldable pub neg : Vector2 → Vector2
neg v = new (Ieee.neg v.x) (Ieee.neg v.y)

unfoldable pub mul : Vector2 → Vector2 → Vector2
mul a b = new (Ieee.mul binary64 a.x b.x) (Ieee.mul binary64 a.y b.y)

unfoldable pub div : Vector2 → Vector2 → Vector2
div a b = new (Ieee.div binary64 a.x b.x) (Ieee.div binary64 a.y b.y)

-- v * s, v / s and s * v
unfoldable pub mul_scalar : Vector2 → Float → Vector2
mul_scalar v s = new (Ieee.mul binary64 v.x s) (Ieee.mul binary64 v.y s)

unfoldable pub div_scalar : Vector2 → Float → Vector2
div_scalar v s = new (Ieee.div binary64 v.x s) (Ieee.div binary64 v.y s)

unfoldable pub scale : Float → Vector2 → Vector2
scale s v = new (Ieee.mul binary64 s v.x) (Ieee.mul binary64 s v.y)

-- ---- tests: -0 is a zero and equals 0, and a NaN is no zero and equals nothing

unfoldable pub is_nonzero : Vector2 → Bool
is_nonzero v = Ieee.ne v.x f0 || Ieee.ne v.y f0

unfoldable pub eq : Vector2 → Vector2 → Bool
eq a b = Ieee.eq a.x b.x && Ieee.eq a.y b.y

-- ---- products and lengths

unfoldable pub dot : Vector2 → Vector2 → Float
dot a b = Ieee.add binary64 (Ieee.mul binary64 a.x b.x) (Ieee.mul binary64 a.y b.y)

unfoldable pub cross : Vector2 → Vector2 → Float
cross a b = Ieee.sub binary64 (Ieee.mul binary64 a.x b.y) (Ieee.mul binary64 a.y b.x)

unfoldable pub squared_length : Vector2 → Float
squared_length v = Ieee.add binary64 (Ieee.mul binary64 v.x v.x) (Ieee.mul binary64 v.y v.y)

unfoldable pub length_of : Vector2 → Float
length_of v = sqrt_of (squared_length v)

-- ---- directions

abbrev pub normalized : Vector2 → Bool → Normalized
normalized v zero_length = record { vector = v; zero_length = zero_length }

-- v by its length. Of length 0 it is (0, 0) or, where that is not allowed, (0, 1): a stand-in
unfoldable pub normalize : Vector2 → Bool → Normalized
normalize v allow_zero =
    let len = length_of v in
    cond (Ieee.ne len f0) (normalized (div_scalar v len) false) (normalized (new f0 (cond allow_zero f0 f1)) true)

unfoldable pub orthogonal : Vector2 → Bool → Vector2
orthogonal v polarity = cond polarity (new (Ieee.neg v.y) v.x) (new v.y (Ieee.neg v.x))

unfoldable pub orthonormal : Vector2 → Bool → Bool → Vector2
orthonormal v polarity allow_zero =
    let len = length_of v in
    let z = cond allow_zero f0 f1 in
    cond (Ieee.ne len f0) (div_scalar (orthogonal v polarity) len) (new f0 (cond polarity z (Ieee.neg z)))
