-- `colors_by_length` meets its contract, loop by loop: the corners are measured, the minor ones marked, the major ones
-- coloured, the minor ones coloured.
use mathlib.Core.Path.{◌≡◌}
use mathlib.Core.List.{map}
use Prim.Native.Nat.{◌+◌, ◌-◌, ◌≤◌}
use lib.ListN.{length, take, drop}
use Rattle.geometry.specs.EdgeColor.{bits_of}
use Rattle.coloring.specs.Contours.{stored_edges, contour_in}
use Rattle.coloring.specs.InkTrap.{measure_corners, major_count, color_majors, color_minors}
use Rattle.coloring.proofs.ink_trap.MeasureLaws.{measuring}
use Rattle.coloring.proofs.ink_trap.CornerLaws.{marking, going, color_of}
use Rattle.coloring.proofs.ink_trap.colors_by_length.Given as goal

abbrev pub invariant-measure : goal.invariant-measure
invariant-measure l = (l.count ≤ l.index) × (length l.array ≡ 256)
    × (measure_corners (contour_in l.contour) ≡ measuring l.count l.index l.spline_length l.array (stored_edges l.contour.edges) l.contour.flags.now)

abbrev pub invariant-mark : goal.invariant-mark
invariant-mark l = (l.left + l.i ≡ l.count + major_count (take l.i l.corners)) × (l.corners ≡ marking l.i l.initial.corners)

abbrev pub invariant-majors : goal.invariant-majors
invariant-majors l = (l.left ≡ major_count (drop l.corner-index l.corners))
    × (color_majors l.initial.initial_color l.initial.left l.initial.ink l.initial.corners ≡ going l.corner-index l.initial_color l.left l.ink l.corners)

abbrev pub invariant-minors : goal.invariant-minors
invariant-minors l = (color_minors 0 l.count l.initial.color l.initial.corners ≡ color_minors l.i (l.count - l.i) l.color l.corners)
    × (take l.i l.colors ≡ map bits_of (map color_of (take l.i l.corners)))
