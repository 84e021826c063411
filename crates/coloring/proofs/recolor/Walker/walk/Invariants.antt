-- `walk` meets its contract. The walk's invariant: the walk from here on, by the definition, equals the whole. The
-- inner loop's: the step that is forced from here on is the one that was forced when the loop began.
use mathlib.Core.Path.{◌≡◌}
use Prim.Native.Nat.{◌≤◌, ◌-◌}
use lib.ListN.{length}
use Rattle.coloring.specs.Queue.{waits}
use Rattle.coloring.specs.Recolor.{forced_step, walk_from, recoloring}
use Rattle.coloring.proofs.recolor.WalkLaws.{left, WalkInvariant}
use Rattle.coloring.proofs.recolor.Walker.walk.Given as goal

abbrev pub invariant-loop-met : goal.invariant-loop-met
invariant-loop-met l = (l.step ≤ forced_step l.joined l.c l.initial.step) × (forced_step l.joined l.c l.step ≡ forced_step l.joined l.c l.initial.step)

abbrev pub decreases-loop-met : goal.decreases-loop-met
decreases-loop-met l = forced_step l.joined l.c l.initial.step - l.step

abbrev pub invariant-walk : goal.invariant-walk
invariant-walk l =
    WalkInvariant l.edge_matrix.n l.edge_matrix.entries.now l.a l.c (walk_from l.edge_matrix.entries.now l.a l.c (recoloring l.initial.self))
    l.self.coloring.now (waits l.self.queue) l.step
    × (l.self.coloring.ghost_name ≡ l.initial.self.coloring.ghost_name)

abbrev pub decreases-walk : goal.decreases-walk
decreases-walk l = left l.edge_matrix.n l.step (length (waits l.self.queue))
