-- A contour with one corner: three runs from it on, the first spline's, a middle one, the last spline's. After
-- `color_teardrop` of coloring/mod.rs.
use Rattle.std.specs.Prelude.{ℕ, zero, suc, Bool, List, map, ℤ, pos, negsuc, length}
use Rattle.coloring.specs.Lists.{range}
use Rattle.coloring.specs.declared.settings.Division.{Division}
use Rattle.coloring.specs.Trichotomy.{symmetrical_trichotomy, balanced, third_by}
use Rattle.coloring.specs.Places.{by_place}
use Rattle.coloring.specs.Corners.{first_corner}

abbrev pub third_of : {A : Type 0} → A → A → A → ℤ → A
third_of first middle last (pos zero) = middle
third_of first middle last (pos (suc n)) = last
third_of first middle last (negsuc n) = first

-- The runs of m edges, by a division. Of the 3 or 6 edges of a contour that was split they are a third each.
unfoldable pub runs : {A : Type 0} → Division → A → A → A → ℕ → List A
unfolding range symmetrical_trichotomy balanced
runs division first middle last m = map (λ i. third_of first middle last (third_by division i m)) (range 0 m)

unfoldable pub teardrop : {A : Type 0} → Division → A → A → A → List Bool → List A
unfolding by_place runs
teardrop division first middle last flags = by_place (first_corner flags) (runs division first middle last (length flags))
