-- `is_corner` meets its contract: the library clears the sign as the definition does.
use mathlib.Core.Path.{◌≡◌, refl}
use mathlib.Core.Bool.{false}
use lib.Ieee.{Float, nan, inf, fin}
use Rattle.std.specs.Float.{float_with_sign}
use Rattle.coloring.specs.Corners.{abs, is_corner}
use Rattle.coloring.proofs.corners.is_corner.Goals as goal

magnitude : (x : Float) → float_with_sign false x ≡ abs x
unfolding float_with_sign
magnitude nan = refl
magnitude (inf s) = refl
magnitude (fin s m e) = refl

pub returns-else-dot : goal.returns-else-dot
unfolding is_corner
returns-else-dot c = rw (← c.dot.ensures, c.if-dot.false, ← c.cross.ensures, c.abs.ensures.value, magnitude c.cross.result)
