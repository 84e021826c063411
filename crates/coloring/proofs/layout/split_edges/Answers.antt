-- The answers for `split_edges`, by the invariant of Invariants.antt.
use mathlib.Core.Path.{◌≡◌, refl, sym, ap, ◌∙◌}
use mathlib.Core.List.{List, [], ◌∷◌, ◌++◌, map, map-append, append-nil, flatten}
use Prim.Native.Nat.{ℕ, ◌+◌, ◌*◌, ◌%◌, ◌≤◌, ◌<◌}
use native.Mathlib.Nat.{mod-lt}
use native.Mathlib.Omega.{arith}
use native.Mathlib.Numerals.{add-one}
use lib.ListN.{length, take, get_or}
use lib.Seq.{take-suc, take_all, length-take-le}
use Rattle.geometry.specs.declared.edge_segment.EdgeSegment.{EdgeSegment}
use Rattle.coloring.specs.Places.{rotate}
use Rattle.coloring.specs.Layout.{thirds}
use Rattle.coloring.specs.Outline.{any_edge}
use Rattle.coloring.specs.Contours.{stored_edges}
use Rattle.coloring.specs.Sizes.{length-rotate, thirds-length}
use Rattle.coloring.proofs.Places.{get_or-rotate}
use Rattle.coloring.proofs.outline.EdgeLaws.{edges-length}
use Rattle.coloring.proofs.outline.StoreLaws.{flatten-append, stored_none, stored_more}
use Rattle.coloring.proofs.layout.split_edges.Goals as goal

module _ (edges : List EdgeSegment) (corner i m : ℕ) (long : length edges ≡ m) (s : corner ≤ m) (h : i < m) where
  abbrev all : List EdgeSegment
  all = rotate corner edges

  inside : i < length all
  inside = rw length-rotate (omega arith)

  -- the thirds of i edges, and those of the edge after them
  thirds-next : flatten (map thirds (take (i + 1) all)) ≡ flatten (map thirds (take i all)) ++ thirds (get_or edges ((corner + i) % m) any_edge)
  unfolding flatten
  thirds-next =
      rw (
        add-one,
        take-suc all i any_edge inside,
        map-append thirds (take i all) (get_or all i any_edge ∷ []),
        flatten-append (map thirds (take i all)),
        append-nil (thirds (get_or all i any_edge)),
        get_or-rotate corner edges i any_edge (omega arith) (omega arith),
        long,
      )

  so_far : length (flatten (map thirds (take i all))) ≡ 3 * i
  so_far = thirds-length (take i all) ∙ ap (λ n. 3 * n) (length-take-le i all (omega (arith, inside)))

pub loop-i-init : goal.loop-i-init
unfolding flatten
loop-i-init c = stored_none _ _

pub at-requires : goal.at-requires
at-requires c = rw c.len-m.ensures (mod-lt _ (omega arith))

pub loop-i-preserved : goal.loop-i-preserved
unfolding thirds
loop-i-preserved c =
    let edges = stored_edges c.args.edges in
    let corner = c.args.corner in
    let i = c.loop-i.i in
    let m = c.len-m.result in
    let long = edges-length c.args.edges.kinds.now c.args.edges.points.now ∙ sym c.len-m.ensures in
    rw (thirds-next edges corner i m long (omega arith) (omega arith), ← c.at.ensures)
    (stored_more (flatten (map thirds (take i (rotate corner edges)))) (thirds c.at.result) (so_far edges corner i m long (omega arith) (omega arith)) refl
    (omega arith) (omega arith) c.loop-i.invariant c.write_thirds.ensures)

pub returns : goal.returns
returns c =
    let edges = stored_edges c.args.edges in
    let all = rotate c.args.corner edges in
    let long = edges-length c.args.edges.kinds.now c.args.edges.points.now in
    rw (take_all c.loop-i.i all (rw length-rotate (omega (arith, long)))) at c.loop-i.invariant
