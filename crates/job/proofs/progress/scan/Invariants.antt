-- `job::progress::scan` meets its contract: at each turn reading has reached a place of the file.
use Prim.Native.Nat.{◌-◌}
use lib.ListN.{length}
use Rattle.job.proofs.progress.ProgressLaws.{Reached}
use Rattle.job.proofs.progress.scan.Given as goal

abbrev pub invariant-loop-item : goal.invariant-loop-item
invariant-loop-item l = Reached l.file l.p

abbrev pub decreases-loop-item : goal.decreases-loop-item
decreases-loop-item l = length l.file - l.p.at
