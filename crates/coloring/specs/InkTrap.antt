-- The colours of a contour's splines in ink-trap colouring, after `edge_coloring_ink_trap` of coloring/mod.rs. A
-- corner's record is `InkTrapCorner`.
use Rattle.std.specs.Prelude.{ℕ, zero, suc, ◌+◌, ◌-◌, ◌%◌, Bool, true, false, ◌&&◌, cond, List, [], ◌∷◌, map, length, get_or, set, ltb, eqb, Float}
use Rattle.std.specs.Float.Ieee as Ieee
use Rattle.std.specs.Float.{nan, binary64}
use Rattle.math.specs.Scalar.{f0}
use Rattle.geometry.specs.EdgeColor.{bits_of, from_bits}
use Rattle.geometry.specs.declared.edge_segment.EdgeSegment.{EdgeSegment}
use Rattle.geometry.specs.declared.edge_color.EdgeColor.{EdgeColor}
use Rattle.geometry.specs.declared.edge_color.EdgeColor.TheVariants.{Black}
use Rattle.coloring.specs.Lists.{range}
use Rattle.coloring.specs.declared.switching.Pen.{Pen}
use Rattle.coloring.specs.declared.ink_trap.InkTrapCorner.{InkTrapCorner}
use Rattle.coloring.specs.Switching.{SplineColors, shared, switch_color_banned, banned_before}
use Rattle.coloring.specs.Corners.{Cornered, estimate_edge_length}

-- a corner with another flag, another colour
abbrev pub with_minor : Bool → InkTrapCorner → InkTrapCorner
with_minor m k = record k { minor = m }

abbrev pub with_color : EdgeColor → InkTrapCorner → InkTrapCorner
with_color c k = record k { color = c }

-- ---- the corners, each with the estimated length since the one before

-- the corners, and the length after the last
pub record Measured : Type 0 where
  pub corners : List InkTrapCorner
  pub spline_length : Float

-- a corner before it is marked and coloured
abbrev pub corner_at : ℕ → Float → InkTrapCorner
corner_at index spline_length = record { index = index; prev_edge_length_estimate = spline_length; minor = false; color = Black }

-- the edges from place `index` on, with their flags
unfoldable pub measure_from : ℕ → Float → List EdgeSegment → List Bool → Measured
unfolding estimate_edge_length
measure_from index spline_length [] flags = record { corners = []; spline_length = spline_length }
measure_from index spline_length (e ∷ edges) [] = record { corners = []; spline_length = spline_length }
measure_from index spline_length (e ∷ edges) (true ∷ flags) =
    let rest = measure_from (suc index) (Ieee.add binary64 f0 (estimate_edge_length e)) edges flags in
    record { corners = corner_at index spline_length ∷ rest.corners; spline_length = rest.spline_length }
measure_from index spline_length (e ∷ edges) (false ∷ flags) =
    measure_from (suc index) (Ieee.add binary64 spline_length (estimate_edge_length e)) edges flags

unfoldable pub measure_corners : Cornered → Measured
unfolding measure_from
measure_corners contour = measure_from 0 f0 contour.edges contour.corners

-- ---- minor corners

-- the first corner's estimate goes on over the end of the contour
abbrev pub closed : Float → InkTrapCorner → InkTrapCorner
closed spline_length k = record k { prev_edge_length_estimate = Ieee.add binary64 k.prev_edge_length_estimate spline_length }

unfoldable pub close_first : Float → List InkTrapCorner → List InkTrapCorner
close_first spline_length [] = []
close_first spline_length (k ∷ corners) = closed spline_length k ∷ corners

-- what stands beyond the last corner; never met
abbrev pub no_corner : InkTrapCorner
no_corner = record { index = 0; prev_edge_length_estimate = nan; minor = false; color = Black }

-- the corner at a place, counted around
unfoldable pub around : List InkTrapCorner → ℕ → InkTrapCorner
around corners i = get_or corners (i % length corners) no_corner

-- the next estimate is below this one and below the one after it
unfoldable pub is_minor : List InkTrapCorner → ℕ → Bool
unfolding around
is_minor corners i =
    let this = (around corners i).prev_edge_length_estimate in
    let next = (around corners (i + 1)).prev_edge_length_estimate in
    let third = (around corners (i + 2)).prev_edge_length_estimate in
    Ieee.lt next this && Ieee.lt next third

-- only with more than three corners
unfoldable pub mark_minors : Measured → List InkTrapCorner
unfolding close_first is_minor range
mark_minors measured =
    elim (ltb 3 (length measured.corners)) [
      | true ↦
          let corners = close_first measured.spline_length measured.corners in
          map (λ i. with_minor (is_minor corners i) (around corners i)) (range 0 (length corners))
      | false ↦ measured.corners
    ]

-- how many corners are not minor
unfoldable pub major_count : List InkTrapCorner → ℕ
major_count [] = 0
major_count (k ∷ corners) = cond k.minor 0 1 + major_count corners

-- ---- the colours of the corners

abbrev pub is_black : EdgeColor → Bool
is_black c = eqb (bits_of c) 0

-- the corners with the major ones coloured, and the pen after them
pub record Inked : Type 0 where
  pub corners : List InkTrapCorner
  pub pen : Pen

-- A major corner switches the colour; the last of them, where `left` falls to 0, may not take the first one's.
unfoldable pub color_majors : EdgeColor → ℕ → Pen → List InkTrapCorner → Inked
unfolding switch_color_banned
color_majors initial left pen [] = record { corners = []; pen = pen }
color_majors initial left pen (k ∷ corners) =
    elim k.minor [
      | true ↦
          let rest = color_majors initial left pen corners in
          record { corners = k ∷ rest.corners; pen = rest.pen }
      | false ↦
          let next = switch_color_banned (banned_before initial (left - 1)) pen in
          let rest = color_majors (cond (is_black initial) next.color initial) (left - 1) next corners in
          record { corners = with_color next.color k ∷ rest.corners; pen = rest.pen }
    ]

-- For k corners from place i on, in order, with the colour of the major corner before: a minor one takes the channels
-- that that colour and the next corner's do not share.
unfoldable pub color_minors : ℕ → ℕ → EdgeColor → List InkTrapCorner → List InkTrapCorner
unfolding around shared
color_minors i zero color corners = corners
color_minors i (suc k) color corners =
    elim (around corners i).minor [
      | true ↦
          let mixed = from_bits (7 - shared color (around corners (i + 1)).color) in
          color_minors (suc i) k color (set corners i (with_color mixed (around corners i)))
      | false ↦ color_minors (suc i) k (around corners i).color corners
    ]

unfoldable pub color_corners : Measured → Pen → Inked
unfolding mark_minors major_count color_majors color_minors
color_corners measured pen =
    let marked = mark_minors measured in
    let inked = color_majors Black (major_count marked) pen marked in
    record { corners = color_minors 0 (length marked) inked.pen.color inked.corners; pen = inked.pen }

-- the colours of the splines, two or more; the next contour goes on with the last one's
unfoldable pub ink_trap_colors : Cornered → Pen → SplineColors
unfolding measure_corners color_corners
ink_trap_colors contour pen =
    let inked = color_corners (measure_corners contour) pen in
    let colors = map (λ (k : InkTrapCorner). k.color) inked.corners in
    record { colors = colors; pen = record { color = get_or colors (length colors - 1) Black; seed = inked.pen.seed } }
