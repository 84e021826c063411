-- The answers for `contour_span`, by the invariant of Invariants.antt.
use Rattle.std.proofs.Common.{◌≡◌, None, Ok, drop, ap, ◌∙◌, rules}
use Rattle.job.specs.Records.{Step, ends, item_size, read_record}
use Rattle.job.proofs.records.ReadingLaws.{Read-as, reads_item, reads_end, reads_fault}
use Rattle.job.proofs.progress.ProgressLaws.{less_on}
use Rattle.job.proofs.part.PartLaws.{seeking_begin, seeking_next, seeking_end, seeking_fault}
use Rattle.job.proofs.part.contour_span.Goals as goal
use Rattle.job.proofs.part.contour_span.Goals.{After-next, After-span, In-Ok-Some, in_default, in_default-2}

-- the first record of the bytes ahead
abbrev step : After-next → Step
step c = read_record c.loop-item.p.state (drop c.loop-item.p.at c.args.file.now)

as_read : (c : In-Ok-Some) → Read-as (step (goal.at.In-Ok-Some c).After-next) c.in-Ok-Some.item (item_size c.in-Ok-Some.item)
as_read c = reads_item _ _ c.next.ensures c.in-Ok-Some.item (c.in-Ok-Some.is ∙ ap Ok c.in-Ok-Some.field-0-is)

pub loop-item-init : goal.loop-item-init
loop-item-init c = rw c.begin-p.ensures (seeking_begin _ _)

pub loop-item-smaller : goal.loop-item-smaller
loop-item-smaller c = rw c.advance-p.ensures (less_on _ _ c.loop-item.invariant.at (as_read (goal.at.loop-item-smaller c).In-Ok-Some))

pub loop-item-preserved : goal.loop-item-preserved
loop-item-preserved c =
    rw (c.advance-p.ensures, c.after-q.ensures)
    (seeking_next _ _ _ c.loop-item.q c.loop-item.invariant _ _ (as_read (goal.at.loop-item-preserved c).In-Ok-Some))

-- the end: a file that is read has no fault
ended : (c : After-span) → step (goal.at.After-span c).After-next ≡ ends
ended c =
    elim c.match-next.branch [
      | in_default w ↦
          let none : w.in_default.field-0 ≡ None = search rules in
          reads_end _ _ c.next.ensures (w.in_default.is ∙ ap Ok none)
      | in_default-2 w ↦
          absurd (seeking_fault _ _ c.loop-item.invariant.at c.requires _ (reads_fault _ _ c.next.ensures w.in_default.field-0 w.in_default.is))
    ]

pub returns-clause-value : goal.returns-clause-value
returns-clause-value c =
    rw c.span.ensures (seeking_end _ _ _ c.loop-item.q c.loop-item.invariant (ended (goal.at.returns-clause-value c).After-span))
