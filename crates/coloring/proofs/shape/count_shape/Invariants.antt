-- `count_shape` meets its contract: what was counted is what the contours passed come to.
use mathlib.Core.Path.{◌≡◌}
use mathlib.Core.List.{map}
use Prim.Native.Nat.{◌+◌}
use lib.ListN.{length}
use Rattle.coloring.specs.Places.{total}
use Rattle.coloring.specs.Layout.{result_edges}
use Rattle.coloring.specs.Splines.{spline_count}
use Rattle.coloring.specs.Outline.{cut}
use Rattle.coloring.proofs.outline.CutLaws.{ContoursPassed, left}
use Rattle.coloring.proofs.shape.count_shape.Given as goal

abbrev pub invariant-loop-length : goal.invariant-loop-length
invariant-loop-length l =
    let lengths = l.contours.lengths.now in
    let flags = l.contours.all.flags.now in
    ContoursPassed lengths (length flags) l.at l.length-index
    × (l.edges + left result_edges lengths flags l.length-index l.at ≡ total (map result_edges (cut lengths flags)))
    × (l.splines + left spline_count lengths flags l.length-index l.at ≡ total (map spline_count (cut lengths flags)))
