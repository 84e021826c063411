-- `write_contours` meets its contract: i contours are written.
use mathlib.Core.List.{map}
use Rattle.coloring.specs.Places.{total}
use Rattle.coloring.specs.Layout.{result_edges}
use Rattle.coloring.specs.Values.{middle_value}
use Rattle.coloring.specs.Outline.{cut}
use Rattle.coloring.specs.Contours.{stored_edges}
use Rattle.coloring.proofs.shape.WriteLaws.{Writing}
use Rattle.coloring.proofs.shape.write_contours.Given as goal

abbrev pub invariant-loop-i : goal.invariant-loop-i
invariant-loop-i l =
    let lengths = l.contours.lengths.now in
    let flags = l.contours.all.flags.now in
    Writing l.settings.division (middle_value l.settings.marking) l.values lengths (stored_edges l.contours.all.edges) flags
    (total (map result_edges (cut lengths flags)))
    l.initial.out l.out l.at l.from l.to l.i
