-- `shape_colors` meets its contract: the contours passed have their colours, and the pen goes on.
use mathlib.Core.Path.{◌≡◌}
use mathlib.Core.Bool.{Bool}
use mathlib.Core.List.{List, ◌++◌, map}
use Prim.Native.Nat.{ℕ, ◌+◌}
use lib.ListN.{length, take, drop}
use Rattle.geometry.specs.EdgeColor.{bits_of}
use Rattle.geometry.specs.declared.edge_segment.EdgeSegment.{EdgeSegment}
use Rattle.coloring.specs.declared.switching.Pen.{Pen}
use Rattle.coloring.specs.declared.settings.Strategy.{Strategy}
use Rattle.coloring.specs.Corners.{Cornered, cornered}
use Rattle.coloring.specs.Splines.{spline_count}
use Rattle.coloring.specs.Values.{shape_colors}
use Rattle.coloring.specs.Contours.{stored_edges}
use Rattle.coloring.proofs.outline.CutLaws.{ContoursPassed, left}
use Rattle.coloring.proofs.values.shape_colors.Given as goal

-- the bytes of contours
abbrev pub color_bytes : Strategy → Pen → List Cornered → List ℕ
color_bytes strategy pen contours = map bits_of (shape_colors strategy pen contours)

-- i contours, with their edges before `at`, have their colours in the places before `to`
pub record Coloring (strategy : Strategy) (lengths : List ℕ) (xs : List EdgeSegment) (flags : List Bool)
    (pen₀ : Pen) (n m : ℕ) (colors : List ℕ) (pen : Pen) (at to i : ℕ) : Type 0 where
  pub passed : ContoursPassed lengths n at i
  pub long : length colors ≡ m
  pub splines : to + left spline_count lengths flags i at ≡ m
  pub bytes : color_bytes strategy pen₀ (cornered lengths xs flags)
      ≡ take to colors ++ color_bytes strategy pen (cornered (drop i lengths) (drop at xs) (drop at flags))

abbrev pub invariant-loop-length : goal.invariant-loop-length
invariant-loop-length l = let all = l.contours.all in
    Coloring l.strategy l.contours.lengths.now (stored_edges all.edges) all.flags.now l.initial.pen (length all.flags.now) (length l.initial.colors) l.colors
    l.pen l.at l.to l.length-index
