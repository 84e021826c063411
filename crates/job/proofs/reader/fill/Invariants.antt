-- `job::reader::fill` meets its contract: at each turn the buffers hold the job so far.
use Rattle.std.proofs.Common.{◌-◌, length}
use Rattle.job.specs.Buffers.{buffers_in, SameJobBuffers}
use Rattle.job.proofs.reader.FillLaws.{Filling}
use Rattle.job.proofs.reader.fill.Given as goal

abbrev pub invariant-loop-item : goal.invariant-loop-item
invariant-loop-item l = record {
  filling : Filling l.file (buffers_in l.initial.buffers) l.p (buffers_in l.buffers);
  same : SameJobBuffers l.initial.buffers l.buffers;
}

abbrev pub decreases-loop-item : goal.decreases-loop-item
decreases-loop-item l = length l.file - l.p.at
