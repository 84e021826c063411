-- Vectors whose components are equal, -0 and 0 among them, have one length: a square is rounded by its value alone.
use mathlib.Core.Path.{◌≡◌, refl, ap₂, ◌∙◌}
use mathlib.Core.Bool.{Bool, true, false, false≢true}
use Prim.Native.Nat.{ℕ, ◌*◌}
use native.Mathlib.Nat.{mul-pos, mul-mul-mul_comm}
use lib.Dec.{eqb, eqb→eq}
use lib.Ieee as Ieee
use lib.Ieee.{Float, nan, inf, fin, binary64, up, down, unlike}
use lib.Ieee.Fits.{down_pos}
use lib.Ieee.Scale.{round_same}
use denote.Floats.{passes}
use Rattle.math.specs.Sqrt.{sqrt_of}
use Rattle.math.specs.Vector2 as vector
use Rattle.math.specs.declared.vector2.Vector2.{Vector2}
use Rattle.coloring.specs.Bools.{and_left, and_right}

squares : (a b p q : ℕ) → a * q ≡ b * p → a * a * (q * q) ≡ b * b * (p * p)
squares a b p q e = mul-mul-mul_comm a a q q ∙ ap₂ (λ (x y : ℕ). x * y) e e ∙ mul-mul-mul_comm b p b p

like_itself : (s : Bool) → unlike s s ≡ false
like_itself true = refl
like_itself false = refl

square_same : (x y : Float) → Ieee.eq x y ≡ true → Ieee.mul binary64 x x ≡ Ieee.mul binary64 y y
unfolding Ieee.eq Ieee.mul
square_same nan y e = absurd (false≢true e)
square_same (inf s) nan e = absurd (false≢true e)
square_same (inf s) (inf t) e = rw (like_itself s, like_itself t)
square_same (inf s) (fin t n d) e = absurd (false≢true e)
square_same (fin s m e) nan h = absurd (false≢true h)
square_same (fin s m e) (inf t) h = absurd (false≢true h)
square_same (fin s m e) (fin t n d) h =
    rw (like_itself s, like_itself t)
    (round_same binary64 false (m * up e * (m * up e)) (down e * down e) (n * up d * (n * up d))
    (down d * down d) (mul-pos (down_pos e) (down_pos e)) (mul-pos (down_pos d) (down_pos d))
    (squares (m * up e) (n * up d) (down e) (down d) (eqb→eq _ _ (passes _ (and_left (eqb (m * up e * down d) (n * up d * down e)) _ h)))))

pub length_same : (v w : Vector2) → vector.eq v w ≡ true → vector.length_of v ≡ vector.length_of w
unfolding vector.eq vector.length_of vector.squared_length
length_same v w e =
    let x = and_left (Ieee.eq v.x w.x) (Ieee.eq v.y w.y) e in
    let y = and_right (Ieee.eq v.x w.x) (Ieee.eq v.y w.y) e in
    ap₂ (λ (a b : Float). sqrt_of (Ieee.add binary64 a b)) (square_same v.x w.x x) (square_same v.y w.y y)
