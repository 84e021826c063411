-- `job::part::contour_span` meets its contract: what is found so far is the contour's place in the job so far.
use Prim.Native.Nat.{◌-◌}
use lib.ListN.{length}
use Rattle.job.proofs.part.PartLaws.{Seeking}
use Rattle.job.proofs.part.contour_span.Given as goal

abbrev pub invariant-loop-item : goal.invariant-loop-item
invariant-loop-item l = Seeking l.file l.number l.p l.q

abbrev pub decreases-loop-item : goal.decreases-loop-item
decreases-loop-item l = length l.file - l.p.at
