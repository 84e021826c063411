-- `spline_colors` meets its contract, by the number of corners and the strategy.
use mathlib.Core.Path.{◌≡◌, ◌∙◌}
use Prim.Native.Nat.{◌≤◌, ◌<◌}
use native.Mathlib.Omega.{arith}
use lib.ListN.{length}
use Rattle.coloring.specs.Corners.{Cornered, corner_count}
use Rattle.coloring.specs.Contours.{contour_in}
use Rattle.coloring.proofs.splines.PaintLaws.{splines-many}
use Rattle.coloring.proofs.values.ColorLaws.{colors-few, colors_simple, colors_ink_trap}
use Rattle.coloring.proofs.values.spline_colors.Goals as goal
use Rattle.coloring.proofs.values.spline_colors.Goals.{Else-count_corners-lt2, Start, Then-count_corners-lt2}

abbrev contour : Start → Cornered
contour c = contour_in c.args.contour

few : (c : Then-count_corners-lt2) → corner_count c.args.contour.flags.now < 2
few c = rw (← c.count_corners.ensures) c.if-count_corners-lt2.true

many : (c : Else-count_corners-lt2) → 2 ≤ corner_count c.args.contour.flags.now
many c = rw (← c.count_corners.ensures) c.if-count_corners-lt2.false

size : (c : Else-count_corners-lt2) → length c.args.colors.now ≡ corner_count c.args.contour.flags.now
size c =
    c.requires ∙ splines-many c.args.contour.flags.now (many c)

pub returns-then-count_corners-lt2 : goal.returns-then-count_corners-lt2
returns-then-count_corners-lt2 c =
    let start = (goal.at.returns-then-count_corners-lt2 c).Start in
    let then_count_corners_lt2 = (goal.at.returns-then-count_corners-lt2 c).Then-count_corners-lt2 in
    rw (colors-few c.args.strategy c.args.pen (contour start) (few then_count_corners_lt2), ← c.requires)
    c.switch_each.ensures

pub simple_colors-requires : goal.simple_colors-requires
simple_colors-requires c =
    let else_count_corners_lt2 = (goal.at.simple_colors-requires c).Else-count_corners-lt2 in
    omega (arith, size else_count_corners_lt2, many else_count_corners_lt2)

pub ink_trap_colors-requires : goal.ink_trap_colors-requires
ink_trap_colors-requires c =
    let else_count_corners_lt2 = (goal.at.ink_trap_colors-requires c).Else-count_corners-lt2 in
    (many else_count_corners_lt2, size else_count_corners_lt2)

pub returns-in-Simple : goal.returns-in-Simple
returns-in-Simple c =
    let start = (goal.at.returns-in-Simple c).Start in
    let else_count_corners_lt2 = (goal.at.returns-in-Simple c).Else-count_corners-lt2 in
    rw (colors_simple c.args.strategy c.args.pen (contour start) c.in-Simple.is (many else_count_corners_lt2), ← size else_count_corners_lt2)
    c.simple_colors.ensures

pub returns-in-InkTrap : goal.returns-in-InkTrap
returns-in-InkTrap c =
    let start = (goal.at.returns-in-InkTrap c).Start in
    let else_count_corners_lt2 = (goal.at.returns-in-InkTrap c).Else-count_corners-lt2 in
    rw (colors_ink_trap c.args.strategy c.args.pen (contour start) c.in-InkTrap.is (many else_count_corners_lt2))
    c.ink_trap_colors.ensures
