-- How many splines a contour has, and a whole shape.
use mathlib.Core.Path.{◌≡◌, refl, ◌∙◌}
use mathlib.Core.Bool.{Bool, cond}
use mathlib.Core.List.{List, [], ◌∷◌, map}
use Prim.Native.Nat.{suc, ◌+◌, ◌≤◌, ◌<◌}
use native.Mathlib.Decide.{dec_lt}
use native.Mathlib.Omega.{arith}
use lib.Dec.{ltb}
use lib.ListN.{length}
use borrow.Author.Tests.{lt-ltb, le-ltb}
use Rattle.coloring.specs.Places.{total}
use Rattle.coloring.specs.Corners.{corner_count}
use Rattle.coloring.specs.Splines.{spline_count}
use Rattle.coloring.specs.Sizes.{sizes}
use Rattle.coloring.proofs.corners.FlagLaws.{corners-few}

splines_some : (flags : List Bool) → 0 < length flags → spline_count flags ≡ cond (ltb (corner_count flags) 2) (suc (corner_count flags)) (corner_count flags)
unfolding spline_count
splines_some [] h = absurd (omega arith)
splines_some (flag ∷ flags) h = refl

pub splines-few : (flags : List Bool) → 0 < length flags → corner_count flags < 2 → spline_count flags ≡ suc (corner_count flags)
splines-few flags h l = splines_some flags h ∙ rw (lt-ltb (corner_count flags) 2 l)

pub splines-many : (flags : List Bool) → 2 ≤ corner_count flags → spline_count flags ≡ corner_count flags
splines-many flags l = splines_some flags (omega (arith, corners-few flags)) ∙ rw (le-ltb (corner_count flags) 2 l)

pub splines_positive : (flags : List Bool) → 0 < length flags → 0 < spline_count flags
splines_positive flags h =
    elim (dec_lt (corner_count flags) 2) [ yes l ↦ omega (arith, splines-few flags h l) | no l ↦ omega (arith, splines-many flags (omega arith)) ]

-- at most one an edge, and one more
one_more : (flags : List Bool) → spline_count flags ≤ suc (length flags)
unfolding spline_count
one_more [] = omega arith
one_more (flag ∷ flags) =
    let all = flag ∷ flags in
    elim (dec_lt (corner_count all) 2) [
      | yes l ↦ omega (arith, splines-few all (omega arith) l)
      | no l ↦ omega (arith, splines-many all (omega arith), corners-few all)
    ]

pub splines_most : (contours : List (List Bool)) → total (map spline_count contours) ≤ total (sizes contours) + length contours
unfolding total
splines_most [] = omega arith
splines_most (flags ∷ rest) = omega (arith, one_more flags, splines_most rest)
