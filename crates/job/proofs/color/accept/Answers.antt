-- `job::color::accept` meets its contract: the answer of reading, then that of the checks.
use Rattle.std.proofs.Common.{◌≡◌, sym, ◌∙◌, ap}
use Rattle.coloring.specs.Answers.{gives}
use Rattle.coloring.specs.Outline.{colored_answer}
use Rattle.coloring.specs.Refusal.{refusal_number}
use Rattle.job.specs.Job.{read_job}
use Rattle.job.specs.Progress.{answer_of, read_answer}
use Rattle.job.specs.Color.{check_file, accept_job}
use Rattle.job.proofs.PassedOn.{passed_on}
use Rattle.job.proofs.color.AcceptLaws.{accept_plain, accept_edges, accept_refused, accept_unread}
use Rattle.job.proofs.color.accept.Goals as goal
use Rattle.job.proofs.color.accept.Goals.{In_ok-n}

-- a file that was read
numbers_are : (c : In_ok-n) → gives c.in_ok-n.n ≡ answer_of (read_job c.args.file.now)
numbers_are c = sym (ap read_answer c.in_ok-n.was) ∙ c.scan.ensures

pub returns-in_err-n : goal.returns-in_err-n
unfolding accept_job
returns-in_err-n c =
    ap read_answer (passed_on c.from_residual.result c.from_residual.ensures.1)
    ∙ accept_unread (read_job c.args.file.now) (refusal_number c.in_err-n.field-0.0) (sym (ap read_answer c.in_err-n.was) ∙ c.scan.ensures)

pub returns-in_err-check : goal.returns-in_err-check
unfolding accept_job check_file
returns-in_err-check c =
    ap read_answer (passed_on c.from_residual-in_err-check.result c.from_residual-in_err-check.ensures.1)
    ∙ accept_refused (read_job c.args.file.now) (refusal_number c.in_err-check.field-0.0) (sym (ap colored_answer c.in_err-check.was) ∙ c.check.ensures)

pub returns-in_ok-check : goal.returns-in_ok-check
unfolding accept_job check_file
returns-in_ok-check c =
    accept_edges (read_job c.args.file.now) _ c.in_ok-check.field-0 (numbers_are (goal.at.returns-in_ok-check c).In_ok-n)
    (sym (ap colored_answer c.in_ok-check.was) ∙ c.check.ensures)

pub returns-else-by_distance : goal.returns-else-by_distance
unfolding accept_job
returns-else-by_distance c =
    accept_plain (read_job c.args.file.now) _ (numbers_are (goal.at.returns-else-by_distance c).In_ok-n) (sym c.by_distance.ensures ∙ c.if-by_distance.false)
