-- `job::reader::read` meets its contract: the refusal of an accepted reading, or room and the job.
use Rattle.std.proofs.Common.{◌≡◌, sym, ◌∙◌, ap}
use Rattle.coloring.specs.Refusal.{refusal_number}
use Rattle.job.specs.Job.{read_job}
use Rattle.job.specs.Buffers.{buffers_in}
use Rattle.job.specs.Reader.{read_outcome}
use Rattle.job.specs.Color.{accept_job}
use Rattle.job.specs.Progress.{read_answer}
use Rattle.job.proofs.PassedOn.{passed_on}
use Rattle.job.proofs.reader.DeliverLaws.{As-job, answer_job, answer-refused, answer-few, delivers_refused, delivers_short, fits_buffers, delivers_job}
use Rattle.job.proofs.color.AcceptLaws.{accept_same}
use Rattle.job.proofs.reader.read.Goals as goal
use Rattle.job.proofs.reader.read.Goals.{In_ok-n}

-- the file's job, which is the job that it reads as
job : (c : In_ok-n) → As-job (accept_job c.args.file.now) c.in_ok-n.n
job c = answer_job _ _ (sym (ap read_answer c.in_ok-n.was) ∙ c.accept.ensures)

same : (c : In_ok-n) → read_job c.args.file.now ≡ accept_job c.args.file.now
same c = accept_same c.args.file.now c.in_ok-n.n (job c)

pub returns-in_err-n-clause-outcome : goal.returns-in_err-n-clause-outcome
returns-in_err-n-clause-outcome c =
    let number = refusal_number c.in_err-n.field-0.0 in
    ap (λ r. read_outcome (read_answer r) (buffers_in c.args.buffers.now)) (passed_on c.from_residual.result c.from_residual.ensures.1)
    ∙ delivers_refused _ _ number (answer-refused _ number (sym (ap read_answer c.in_err-n.was) ∙ c.accept.ensures))

pub has_room-requires : goal.has_room-requires
has_room-requires c =
    let in_ok = (goal.at.has_room-requires c).In_ok-n in
    answer-few c.args.file.now c.in_ok-n.n (rw (same in_ok) (job in_ok))

pub returns-then-not-has_room-clause-outcome : goal.returns-then-not-has_room-clause-outcome
returns-then-not-has_room-clause-outcome c =
    let in_ok = (goal.at.returns-then-not-has_room-clause-outcome c).In_ok-n in
    delivers_short _ _ (job in_ok) _ (sym c.has_room.ensures ∙ c.if-not-has_room.true)

pub fill-requires : goal.fill-requires
fill-requires c =
    let in_ok = (goal.at.fill-requires c).In_ok-n in
    rw (same in_ok) (fits_buffers _ _ (job in_ok) _ (sym c.has_room.ensures ∙ c.if-not-has_room.false))

pub returns-clause-outcome : goal.returns-clause-outcome
returns-clause-outcome c =
    let in_ok = (goal.at.returns-clause-outcome c).In_ok-n in
    delivers_job _ _ (job in_ok) _ _ (sym c.has_room.ensures ∙ c.if-not-has_room.false) (rw (same in_ok) at c.fill.ensures.after)
