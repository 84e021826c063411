-- A contour's corners cut it into splines. Whatever a colouring gives to the splines, colours or numbers, is spread
-- over the edges in one way.
use Rattle.std.specs.Prelude.{ℕ, suc, ◌-◌, ◌≤◌, ◌≡◌, Bool, true, false, cond, List, [], ◌∷◌, map, length, get_or, take, drop, eqb, ltb}
use Rattle.coloring.specs.declared.settings.Division.{Division}
use Rattle.coloring.specs.Limits.{max_result_edges}
use Rattle.coloring.specs.Places.{total}
use Rattle.coloring.specs.Corners.{Cornered, corner_count, flags_in}
use Rattle.coloring.specs.Teardrop.{teardrop}

-- one spline without a corner, two with one corner, else one a corner; none in an empty contour
unfoldable pub spline_count : List Bool → ℕ
spline_count [] = 0
spline_count (flag ∷ flags) =
    let k = corner_count (flag ∷ flags) in
    cond (ltb k 2) (suc k) k

-- the splines of all contours
unfoldable pub spline_total : List Cornered → ℕ
unfolding total spline_count
spline_total contours = total (map spline_count (flags_in contours))

-- by place: at a corner the next spline begins; `value` is that of the spline before
unfoldable pub spread : {A : Type 0} → A → List A → List Bool → List A
spread value values [] = []
spread value values (false ∷ flags) = value ∷ spread value values flags
spread value [] (true ∷ flags) = value ∷ spread value [] flags
spread value (next ∷ values) (true ∷ flags) = next ∷ spread next values flags

-- The values of a contour's edges, by place, from those of its splines. What stands before the first corner belongs to
-- the last spline.
unfoldable pub paint : {A : Type 0} → Division → A → List A → List Bool → List A
unfolding teardrop spread
paint division middle values flags =
    elim (eqb (corner_count flags) 1) [
      | true ↦ teardrop division (get_or values 0 middle) middle (get_or values 1 middle) flags
      | false ↦ spread (get_or values (length values - 1) middle) values flags
    ]

-- the same for several contours, each with its own part of the values
unfoldable pub paint_contours : {A : Type 0} → Division → A → List A → List (List Bool) → List (List A)
unfolding spline_count paint
paint_contours division middle values [] = []
paint_contours division middle values (flags ∷ rest) =
    let count = spline_count flags in
    paint division middle (take count values) flags ∷ paint_contours division middle (drop count values) rest

-- where splines' values may be painted: one a spline, and a place for each edge
pub record Paintable (flags : List Bool) (values out : List ℕ) : Type 0 where
  pub few : length flags ≤ max_result_edges
  pub valued : length values ≡ spline_count flags
  pub room : length out ≡ length flags
