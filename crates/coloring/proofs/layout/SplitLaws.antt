-- What a split leaves as it is: the number of corners, the splines, and the value of each spline.
use mathlib.Core.Path.{◌≡◌, refl, sym, ap, ◌∙◌}
use mathlib.Core.Bool.{Bool, true, false}
use mathlib.Core.List.{List, [], ◌∷◌, map}
use Prim.Native.Nat.{ℕ, zero, suc, ◌<◌}
use native.Mathlib.Omega.{arith}
use lib.Dec.{eqb}
use lib.Ieee.{Float}
use lib.ListN.{length, get_or, length-map}
use borrow.Author.Tests.{eq-eqb, ne_eqb}
use Rattle.geometry.specs.EdgeColor.{bits_of}
use Rattle.coloring.specs.Lists.{range, length-range}
use Rattle.coloring.specs.SplineColors.{color_splines}
use Rattle.coloring.specs.declared.switching.Pen.{Pen}
use Rattle.coloring.specs.declared.settings.Division.{Division}
use Rattle.coloring.specs.declared.settings.Strategy.{Strategy}
use Rattle.coloring.specs.declared.settings.Marking.{Marking}
use Rattle.coloring.specs.declared.settings.Marking.TheVariants.{Colors, Numbers, Distances}
use Rattle.coloring.specs.Places.{by_place, total}
use Rattle.coloring.specs.Switching.{init_color, switch_each}
use Rattle.coloring.specs.Corners.{Cornered, corners_from, corners_of, corner_count, first_corner, flags_in}
use Rattle.coloring.specs.Layout.{splits, first_only, split_contour, layout}
use Rattle.coloring.specs.Teardrop.{runs, teardrop}
use Rattle.coloring.specs.Splines.{spline_count, spline_total, paint}
use Rattle.coloring.specs.Values.{spline_colors, shape_colors, spline_color, spline_values}
use Rattle.coloring.specs.Sizes.{Flagged, layout-split, layout_same, split-length, split-few, paint-one}
use Rattle.coloring.proofs.corners.FlagLaws.{corners-few}
use Rattle.coloring.proofs.splines.PaintLaws.{splines-few}
use Rattle.coloring.proofs.values.ColorLaws.{colors-few}

-- ---- one corner, at the first edge

first-only-length : (n : ℕ) → length (first_only n) ≡ n
unfolding first_only
first-only-length n = length-map (range 0 n) _ ∙ length-range 0 n

none_after : (index first n : ℕ) → corners_from index (map (λ i. eqb i 0) (range (suc first) n)) ≡ []
unfolding corners_from range
none_after index first zero = refl
none_after index first (suc n) = rw (ne_eqb (suc first) 0 (λ e. omega arith)) (none_after (suc index) (suc first) n)

first-corners : (n : ℕ) → 0 < n → corner_count (first_only n) ≡ 1
unfolding corner_count corners_of corners_from first_only range
first-corners zero h = absurd (omega arith)
first-corners (suc n) h = ap (λ (l : List ℕ). suc (length l)) (none_after 1 0 n)

first-place : (n : ℕ) → 0 < n → first_corner (first_only n) ≡ 0
unfolding first_corner corners_of corners_from first_only range
first-place zero h = absurd (omega arith)
first-place (suc n) h = refl

-- ---- a contour

module _ (contour : Cornered) (l : length contour.corners ≡ length contour.edges) where
  module _ (e : splits contour.corners ≡ true) where
    one : corner_count contour.corners ≡ 1
    one = (split-few contour.corners e).0

    some : 0 < length (split_contour contour).edges
    some = omega (arith, split-length contour, corners-few contour.corners, one)

    flags-split : (split_contour contour).corners ≡ first_only (length (split_contour contour).edges)
    unfolding split_contour
    flags-split = refl

    one_again : corner_count (split_contour contour).corners ≡ 1
    unfolding split_contour
    one_again = first-corners (length (split_contour contour).edges) some

    -- it is painted in three runs, from its first edge on
    pub split-painted : (division : Division) (middle : ℕ) (values : List ℕ)
        → paint division middle values (split_contour contour).corners
        ≡ by_place 0 (runs division (get_or values 0 middle) middle (get_or values 1 middle) (length (split_contour contour).edges))
    unfolding teardrop
    split-painted division middle values = paint-one division middle values _ (eq-eqb _ _ one_again) ∙ rw (flags-split, first-place _ some, first-only-length)

    splines-split : spline_count (split_contour contour).corners ≡ spline_count contour.corners
    splines-split =
        splines-few _ (omega (arith, corners-few (split_contour contour).corners, one_again)) (omega (arith, one_again))
        ∙ omega (arith, one, one_again, splines-few contour.corners (omega (arith, corners-few contour.corners, one)) (omega (arith, one)))

    colors-split : (strategy : Strategy) (pen : Pen) → spline_colors strategy pen (split_contour contour) ≡ spline_colors strategy pen contour
    colors-split strategy pen =
        colors-few strategy pen (split_contour contour) (omega (arith, one_again))
        ∙ ap (λ k. switch_each k pen) splines-split
        ∙ sym (colors-few strategy pen contour (omega (arith, one)))

  pub splines_by : (b : Bool) → splits contour.corners ≡ b → spline_count (layout contour).corners ≡ spline_count contour.corners
  splines_by true e = rw (layout-split contour e) (splines-split e)
  splines_by false e = rw (layout_same contour e)

  colors_by_lem : (b : Bool) → splits contour.corners ≡ b → (strategy : Strategy) (pen : Pen)
      → spline_colors strategy pen (layout contour) ≡ spline_colors strategy pen contour
  colors_by_lem true e strategy pen = rw (layout-split contour e) (colors-split e strategy pen)
  colors_by_lem false e strategy pen = rw (layout_same contour e)

-- ---- several contours

pub splines-laid : (found : List Cornered) → Flagged found → map spline_count (flags_in (map layout found)) ≡ map spline_count (flags_in found)
unfolding Flagged
splines-laid [] f = refl
splines-laid (contour ∷ found) f = rw (splines_by contour f.0 (splits contour.corners) refl, splines-laid found f.1)

pub total-laid : (found : List Cornered) → Flagged found → spline_total (map layout found) ≡ spline_total found
unfolding spline_total
total-laid found f = ap total (splines-laid found f)

colors-laid : (strategy : Strategy) (pen : Pen) (found : List Cornered) → Flagged found
    → shape_colors strategy pen (map layout found) ≡ shape_colors strategy pen found
unfolding shape_colors Flagged
colors-laid strategy pen [] f = refl
colors-laid strategy pen (contour ∷ found) f =
    let here = spline_colors strategy pen contour in
    rw (colors_by_lem contour f.0 (splits contour.corners) refl strategy pen, colors-laid strategy here.pen found f.1)

pub values-laid : (marking : Marking) (distances : List Float) (found : List Cornered) → Flagged found
    → spline_values marking distances (map layout found) ≡ spline_values marking distances found
unfolding spline_values
values-laid (Colors strategy seed) distances found f = ap (map bits_of) (colors-laid strategy (init_color seed) found f)
values-laid Numbers distances found f = ap (range 0) (total-laid found f)
values-laid (Distances seed) distances found f =
    ap (λ (n : ℕ). map (λ color. bits_of (spline_color color)) (color_splines n distances seed)) (total-laid found f)
