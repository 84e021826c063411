-- `uncolor_same_neighbors` meets its contract: the two runs, one after the other.
use mathlib.Core.Path.{◌≡◌, ap, ◌∙◌}
use Prim.Native.Nat.{ℕ, suc, ◌-◌}
use native.Mathlib.Nat.{sub-zero}
use native.Mathlib.Numerals.{add-one}
use native.Mathlib.Omega.{arith}
use lib.ListN.{length}
use Rattle.coloring.specs.Recolor.{Recoloring, uncolor_from, uncolor_same_neighbors, recoloring}
use Rattle.coloring.proofs.recolor.UncolorLaws.{from_uncolors, still_uncoloring}
use Rattle.coloring.proofs.recolor.Walker.uncolor_same_neighbors.Goals as goal
use Rattle.coloring.proofs.recolor.Walker.uncolor_same_neighbors.Goals.{After-uncolor_from}

module _ (c : After-uncolor_from) where
  abbrev given : Recoloring
  given = recoloring c.args.self.now

  abbrev left : ℕ
  left = length c.args.self.now.coloring.now - suc c.args.v

  moved : recoloring c.uncolor_from.new.self ≡ uncolor_from c.args.entries.now c.args.c (suc c.args.v) left given
  moved = rw add-one at c.uncolor_from.ensures.after

pub uncolor_from-requires-2 : goal.uncolor_from-requires-2
uncolor_from-requires-2 c =
    let after = (goal.at.uncolor_from-requires-2 c).After-uncolor_from in
    let ready = c.requires.0 in
    let lost = from_uncolors c.args.entries.now c.args.c ready.color (suc c.args.v) (left after) (given after) in
    (still_uncoloring ready lost (moved after), omega (arith, ap (λ (r : Recoloring). length r.coloring) (moved after), lost.size))

pub returns-clause-after : goal.returns-clause-after
unfolding uncolor_same_neighbors
returns-clause-after c =
    c.uncolor_from-2.ensures.after ∙ rw (sub-zero, moved (goal.at.returns-clause-after c).After-uncolor_from)
