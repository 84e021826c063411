-- `write_thirds` meets its contract: three edges are written.
use native.Mathlib.Omega.{arith}
use mathlib.Core.Path.{refl}
use mathlib.Core.List.{[], ◌∷◌}
use Rattle.geometry.specs.EdgeSegment.{split_in_thirds}
use Rattle.coloring.specs.Layout.{thirds}
use Rattle.coloring.proofs.outline.StoreLaws.{stored_more}
use Rattle.coloring.proofs.layout.write_thirds.Goals as goal

pub returns : goal.returns
unfolding thirds
returns c =
    let parts = split_in_thirds c.args.e in
    let split = c.split_in_thirds-parts.ensures in
    let first = rw split at c.write_edge.ensures in
    let second = rw split at c.write_edge-2.ensures in
    let third = rw split at c.write_edge-3.ensures in
    let two = stored_more (parts.first ∷ []) (parts.second ∷ []) refl refl (omega arith) (omega arith) first second in
    stored_more (parts.first ∷ parts.second ∷ []) (parts.third ∷ []) refl refl (omega arith) (omega arith) two third
