-- The answers for `scan`, by the invariant of Invariants.antt.
use Rattle.std.proofs.Common.{Ok, drop, ap, ◌∙◌}
use Rattle.job.specs.Records.{Step, read_record}
use Rattle.job.specs.Progress.{answer_of, read_answer}
use Rattle.coloring.specs.Answers.{gives}
use Rattle.job.proofs.PassedOn.{passed_on}
use Rattle.job.proofs.records.ReadingLaws.{Read-as, reads_item, reads_end, reads_fault}
use Rattle.job.specs.Records.{item_size}
use Rattle.job.proofs.progress.ProgressLaws.{reached_begin, less_on, reached_on, reached_end, reached_fault}
use Rattle.job.proofs.progress.scan.Goals as goal
use Rattle.job.proofs.progress.scan.Goals.{After-next, In-Some}

-- the first record of the bytes ahead
abbrev step : After-next → Step
step c = read_record c.loop-item.p.state (drop c.loop-item.p.at c.args.file.now)

as_read : (c : In-Some) → Read-as (step (goal.at.In-Some c).After-next) c.in-Some.item (item_size c.in-Some.item)
as_read c = reads_item _ _ c.next.ensures c.in-Some.item (c.in_ok-item.was ∙ ap Ok c.in-Some.is)

pub loop-item-init : goal.loop-item-init
loop-item-init c = rw c.begin-p.ensures (reached_begin _)

pub loop-item-smaller : goal.loop-item-smaller
loop-item-smaller c = rw c.advance-p.ensures (less_on _ _ c.loop-item.invariant (as_read (goal.at.loop-item-smaller c).In-Some))

pub loop-item-preserved : goal.loop-item-preserved
loop-item-preserved c = rw c.advance-p.ensures (reached_on _ _ c.loop-item.invariant (as_read (goal.at.loop-item-preserved c).In-Some))

pub returns : goal.returns
returns c =
    ap gives c.loop-item.invariant.numbers_are
    ∙ ap answer_of (reached_end _ _ c.loop-item.invariant (reads_end _ _ c.next.ensures (c.in_ok-item.was ∙ ap Ok c.in_default.is)))

pub returns-in_err-item : goal.returns-in_err-item
returns-in_err-item c =
    let fault = reads_fault _ _ c.next.ensures c.in_err-item.field-0.0 c.in_err-item.was in
    ap read_answer (passed_on c.from_residual.result c.from_residual.ensures.1) ∙ ap answer_of (reached_fault _ _ c.loop-item.invariant _ fault)
