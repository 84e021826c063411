-- The colours of the splines of one contour, case by case.
use mathlib.Core.Path.{◌≡◌, ◌∙◌}
use Prim.Native.Nat.{◌-◌, ◌≤◌, ◌<◌}
use lib.Dec.{ltb}
use borrow.Author.Tests.{lt-ltb, le-ltb}
use Rattle.coloring.specs.Bools.{branch_true, branch_false}
use Rattle.coloring.specs.declared.switching.Pen.{Pen}
use Rattle.coloring.specs.declared.settings.Strategy.{Strategy}
use Rattle.coloring.specs.declared.settings.Strategy.TheVariants.{Simple, InkTrap}
use Rattle.coloring.specs.Switching.{switch_each}
use Rattle.coloring.specs.Corners.{Cornered, corner_count}
use Rattle.coloring.specs.Splines.{spline_count}
use Rattle.coloring.specs.Simple.{simple_colors}
use Rattle.coloring.specs.InkTrap.{ink_trap_colors}
use Rattle.coloring.specs.Values.{colors_by, spline_colors}

module _ (strategy : Strategy) (pen : Pen) (contour : Cornered) where
  pub colors-few : corner_count contour.corners < 2 → spline_colors strategy pen contour ≡ switch_each (spline_count contour.corners) pen
  unfolding spline_colors
  colors-few h = branch_true (ltb (corner_count contour.corners) 2) _ _ (lt-ltb _ _ h)

  colors-many : 2 ≤ corner_count contour.corners → spline_colors strategy pen contour ≡ colors_by strategy pen contour
  unfolding spline_colors
  colors-many h = branch_false (ltb (corner_count contour.corners) 2) _ _ (le-ltb _ _ h)

  pub colors_simple : strategy ≡ Simple → 2 ≤ corner_count contour.corners
      → spline_colors strategy pen contour ≡ simple_colors (corner_count contour.corners - 1) pen
  colors_simple e h = colors-many h ∙ rw e

  pub colors_ink_trap : strategy ≡ InkTrap → 2 ≤ corner_count contour.corners → spline_colors strategy pen contour ≡ ink_trap_colors contour pen
  colors_ink_trap e h = colors-many h ∙ rw e
