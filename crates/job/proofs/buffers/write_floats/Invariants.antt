-- `job::buffers::write_floats` meets its contract: at each turn so many floats are written.
use Rattle.std.proofs.Common.{◌≡◌, length, take}
use Rattle.coloring.specs.Lists.{over}
use Rattle.job.specs.Patterns.{words, floats}
use Rattle.job.proofs.buffers.write_floats.Given as goal

abbrev pub invariant-loop-i : goal.invariant-loop-i
invariant-loop-i l = (length l.to ≡ length l.initial.to) × (l.to ≡ over (take l.i (floats (words (length l.initial.to) l.bytes))) l.initial.to)
