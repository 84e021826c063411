-- The answers for `copy_edges`, by the invariant of Invariants.antt.
use mathlib.Core.Path.{refl}
use mathlib.Core.List.{[], ◌∷◌}
use Prim.Native.Nat.{◌<◌}
use native.Mathlib.Omega.{arith}
use native.Mathlib.Numerals.{add-one}
use lib.ListN.{length, take}
use lib.Seq.{take-suc, take_all, length-take-le}
use Rattle.coloring.specs.Outline.{any_edge}
use Rattle.coloring.specs.Contours.{stored_edges}
use Rattle.coloring.proofs.outline.EdgeLaws.{edges-length}
use Rattle.coloring.proofs.outline.StoreLaws.{stored_none, stored_more}
use Rattle.coloring.proofs.layout.copy_edges.Goals as goal

pub loop-i-init : goal.loop-i-init
loop-i-init c = stored_none _ _

pub loop-i-preserved : goal.loop-i-preserved
loop-i-preserved c =
    let edges = stored_edges c.args.edges in
    let i = c.loop-i.i in
    let h : i < length edges = omega (arith, edges-length c.args.edges.kinds.now c.args.edges.points.now) in
    rw (add-one, take-suc edges i any_edge h, ← c.at.ensures)
    (stored_more (take i edges) (c.at.result ∷ []) (length-take-le i edges (omega arith)) refl (omega arith) (omega arith)
    c.loop-i.invariant c.write_edge.ensures)

pub returns : goal.returns
returns c =
    let edges = stored_edges c.args.edges in
    rw (take_all c.loop-i.i edges (omega (arith, edges-length c.args.edges.kinds.now c.args.edges.points.now))) at c.loop-i.invariant
