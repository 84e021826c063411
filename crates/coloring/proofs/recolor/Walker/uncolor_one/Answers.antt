-- `uncolor_one` meets its contract: a spline that still has its colour finds a place in the queue.
use mathlib.Core.Path.{ap, ◌∙◌}
use mathlib.Core.List.{List}
use Prim.Native.Nat.{ℕ}
use lib.ListN.{set}
use borrow.Author.Tests.{eqb-true}
use Rattle.coloring.specs.Recolor.{Recoloring, uncolored}
use Rattle.coloring.proofs.recolor.UncolorLaws.{has_room, put_one, skip_entry, skip_color}
use Rattle.coloring.proofs.recolor.Walker.uncolor_one.Goals as goal
use Rattle.coloring.proofs.recolor.Walker.uncolor_one.Goals.{else-entries-i-ne0-via-else-entries-i-ne0}
use Rattle.coloring.proofs.recolor.Walker.uncolor_one.Goals.{else-entries-i-ne0-via-then-entries-i-ne0+else-self-i}

pub push_back-requires : goal.push_back-requires
push_back-requires c = has_room c.requires.0 c.args.i c.requires.1 (eqb-true _ _ c.if-self-i.true-raw)

pub returns-then-self-i-clause-after : goal.returns-then-self-i-clause-after
unfolding uncolored
returns-then-self-i-clause-after c =
    let after : List ℕ → Recoloring = λ queue. record { coloring = set c.args.self.now.coloring.now c.args.i 3; queue = queue } in
    ap after c.push_back.ensures
    ∙ put_one c.requires.0 c.args.i c.requires.1 c.if-entries-i-ne0.true (eqb-true _ _ c.if-self-i.true-raw)

pub returns-else-entries-i-ne0-clause-after : goal.returns-else-entries-i-ne0-clause-after
returns-else-entries-i-ne0-clause-after c =
    elim c.else-entries-i-ne0.branch [
      | else-entries-i-ne0-via-then-entries-i-ne0+else-self-i w ↦
          skip_color c.requires.0 c.args.i c.requires.1 w.if-self-i.false
      | else-entries-i-ne0-via-else-entries-i-ne0 w ↦ skip_entry c.requires.0 c.args.i c.requires.1 w.if-entries-i-ne0.false
    ]
