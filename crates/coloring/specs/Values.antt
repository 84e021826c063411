-- What the splines of a shape get, a byte each, contour after contour: colours drawn with a pen, numbers, or the
-- colours that their distances give.
use Rattle.std.specs.Prelude.{ℕ, ◌-◌, true, false, List, [], ◌∷◌, ◌++◌, map, get_or, leb, ltb, Float}
use Rattle.geometry.specs.EdgeColor.{bits_of}
use Rattle.geometry.specs.declared.edge_color.EdgeColor.{EdgeColor}
use Rattle.geometry.specs.declared.edge_color.EdgeColor.TheVariants.{Yellow, Cyan, Magenta, White}
use Rattle.coloring.specs.Answers.{Check, unless}
use Rattle.coloring.specs.Lists.{range}
use Rattle.coloring.specs.Limits.{max_splines}
use Rattle.coloring.specs.SplineColors.{check_splines, color_splines}
use Rattle.coloring.specs.declared.switching.Pen.{Pen}
use Rattle.coloring.specs.declared.settings.Strategy.{Strategy}
use Rattle.coloring.specs.declared.settings.Strategy.TheVariants.{Simple, InkTrap}
use Rattle.coloring.specs.declared.settings.Marking.{Marking}
use Rattle.coloring.specs.declared.settings.Marking.TheVariants.{Colors, Numbers, Distances}
use Rattle.coloring.specs.Switching.{SplineColors, init_color, switch_each}
use Rattle.coloring.specs.Corners.{Cornered, corner_count}
use Rattle.coloring.specs.Splines.{spline_count, spline_total}
use Rattle.coloring.specs.Simple.{simple_colors}
use Rattle.coloring.specs.InkTrap.{ink_trap_colors}

-- ---- simple and ink-trap colouring

-- a contour with two corners or more
abbrev pub colors_by : Strategy → Pen → Cornered → SplineColors
colors_by Simple pen contour = simple_colors (corner_count contour.corners - 1) pen
colors_by InkTrap pen contour = ink_trap_colors contour pen

-- With no corner or one, each spline's colour is switched from the one before. An empty contour is passed over.
unfoldable pub spline_colors : Strategy → Pen → Cornered → SplineColors
unfolding switch_each simple_colors ink_trap_colors spline_count
spline_colors strategy pen contour =
    elim (ltb (corner_count contour.corners) 2) [
      | true ↦ switch_each (spline_count contour.corners) pen
      | false ↦ colors_by strategy pen contour
    ]

-- the contours in order, each with the pen that the one before left
unfoldable pub shape_colors : Strategy → Pen → List Cornered → List EdgeColor
unfolding spline_colors
shape_colors strategy pen [] = []
shape_colors strategy pen (contour ∷ rest) =
    let here = spline_colors strategy pen contour in
    here.colors ++ shape_colors strategy here.pen rest

-- ---- by-distance colouring

-- the colours 0, 1, 2 of splines are Yellow, Cyan, Magenta
abbrev pub spline_color : ℕ → EdgeColor
spline_color color = get_or (Yellow ∷ Cyan ∷ Magenta ∷ []) color Yellow

-- ---- the bytes

unfoldable pub spline_values : Marking → List Float → List Cornered → List ℕ
unfolding init_color shape_colors spline_total range
spline_values (Colors strategy seed) distances contours = map bits_of (shape_colors strategy (init_color seed) contours)
spline_values Numbers distances contours = range 0 (spline_total contours)
spline_values (Distances seed) distances contours = map (λ color. bits_of (spline_color color)) (color_splines (spline_total contours) distances seed)

-- in the place of a spline's number: the edge is White
abbrev pub no_spline : ℕ
no_spline = 255

-- what the middle run of a teardrop gets
abbrev pub middle_value : Marking → ℕ
middle_value (Colors strategy seed) = bits_of White
middle_value Numbers = no_spline
middle_value (Distances seed) = bits_of White

-- so many splines can be marked: at most 64 are numbered; by distance there is a distance for each pair of them
abbrev pub check_marking : Marking → ℕ → List Float → List Check
check_marking (Colors strategy seed) splines distances = []
check_marking Numbers splines distances = unless 4 (leb splines max_splines) ∷ []
check_marking (Distances seed) splines distances = check_splines splines distances
