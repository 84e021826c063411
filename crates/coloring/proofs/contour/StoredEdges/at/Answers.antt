-- `StoredEdges::at` meets its contract: eight places and their kind are decoded.
use Rattle.std.proofs.Common.{Option, Some, None, unwrap_or}
use mathlib.Core.Path.{◌≡◌, refl, sym, ap, ◌∙◌}
use Prim.Native.Nat.{◌+◌, ◌*◌, ◌-◌}
use native.Mathlib.Omega.{arith}
use lib.ListN.{get_or, take, drop}
use Rattle.geometry.specs.EdgeSegment.{decoded_answer}
use Rattle.geometry.specs.declared.edge_segment.EdgeSegment.{EdgeSegment}
use Rattle.coloring.specs.Outline.{any_edge, decoded, edge_stored}
use Rattle.coloring.proofs.outline.EdgeLaws.{edges_at}
use Rattle.coloring.proofs.contour.StoredEdges.at.Goals as goal

or_any : (found : Option EdgeSegment) → unwrap_or found any_edge ≡ decoded (decoded_answer found)
or_any (Some e) = refl
or_any None = refl

pub returns : goal.returns
unfolding edge_stored
returns c =
    let i = c.args.i in
    let edges = c.args.self in
    let eight : 8 * i + 8 - 8 * i ≡ 8 = omega arith in
    let places : c.copy_from_slice.new.self ≡ take 8 (drop (8 * i) edges.points.now) = c.copy_from_slice.ensures.after ∙ rw eight in
    c.unwrap_or.ensures
    ∙ or_any c.from_stored.result
    ∙ ap decoded c.from_stored.ensures
    ∙ ap (edge_stored (get_or edges.kinds.now i 0)) places
    ∙ sym (edges_at _ _ i any_edge c.requires)
