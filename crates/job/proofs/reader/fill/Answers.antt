-- The answers for `fill`, by the invariant of Invariants.antt.
use Rattle.std.proofs.Common.{◌≡◌, None, Ok, drop, ap, ◌∙◌, rules}
use Rattle.std.proofs.lemmas.List.{take_rest}
use Rattle.job.specs.Records.{Step, item_size, read_record}
use Rattle.job.proofs.records.ReadingLaws.{Read-as, reads_item, reads_end, reads_fault}
use Rattle.job.proofs.progress.ProgressLaws.{less_on}
use Rattle.job.proofs.buffers.BufferLaws.{same_then}
use Rattle.job.proofs.reader.FillLaws.{filling_begin, filling_room, filling_next, filling_end, filling_fault}
use Rattle.job.proofs.reader.fill.Goals as goal
use Rattle.job.proofs.reader.fill.Goals.{After-next, In-Ok-Some}

-- the first record of the bytes ahead
abbrev step : After-next → Step
step c = read_record c.loop-item.p.state (drop c.loop-item.p.at c.args.file.now)

as_read : (c : In-Ok-Some) → Read-as (step (goal.at.In-Ok-Some c).After-next) c.in-Ok-Some.item (item_size c.in-Ok-Some.item)
as_read c = reads_item _ _ c.next.ensures c.in-Ok-Some.item (c.in-Ok-Some.is ∙ ap Ok c.in-Ok-Some.field-0-is)

pub loop-item-init : goal.loop-item-init
loop-item-init c = record {
  filling = rw c.begin-p.ensures (filling_begin _ _);
  same = search rules;
}

pub write-requires : goal.write-requires
write-requires c =
    rw (take_rest c.args.file.now c.loop-item.p.at)
    (filling_room _ _ c.requires _ _ c.loop-item.invariant.filling _ _ (as_read (goal.at.write-requires c).In-Ok-Some))

pub loop-item-smaller : goal.loop-item-smaller
loop-item-smaller c = rw c.advance-p.ensures (less_on _ _ c.loop-item.invariant.filling.at (as_read (goal.at.loop-item-smaller c).In-Ok-Some))

pub loop-item-preserved : goal.loop-item-preserved
loop-item-preserved c = record {
  filling = rw (c.advance-p.ensures, c.write.ensures.after, take_rest c.args.file.now c.loop-item.p.at)
      (filling_next _ _ c.requires _ _ c.loop-item.invariant.filling _ _ (as_read (goal.at.loop-item-preserved c).In-Ok-Some));
  same = same_then c.loop-item.invariant.same c.write.ensures.same;
}

pub returns-in_default-clause-after : goal.returns-in_default-clause-after
returns-in_default-clause-after c =
    let none : c.in_default.field-0 ≡ None = search rules in
    filling_end _ _ c.requires _ _ c.loop-item.invariant.filling (reads_end _ _ c.next.ensures (c.in_default.is ∙ ap Ok none))

-- a file that is read has no fault
pub returns-in_default-2-clause-after : goal.returns-in_default-2-clause-after
returns-in_default-2-clause-after c =
    absurd (filling_fault _ _ c.requires _ _ c.loop-item.invariant.filling _ (reads_fault _ _ c.next.ensures c.in_default.field-0 c.in_default.is))
