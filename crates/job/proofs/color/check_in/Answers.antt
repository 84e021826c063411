-- `job::color::check_in` meets its contract: by distance the splines are counted, else the colouring answers.
use Rattle.std.proofs.Common.{◌≡◌, true, refl, sym, ◌∙◌, ap}
use Rattle.coloring.specs.Answers.{gives}
use Rattle.coloring.specs.Refusal.{refusal_number}
use Rattle.coloring.specs.Outline.{Outline, Outcome, colored_answer, result_in}
use Rattle.coloring.specs.EdgeColoring.{collect_splines}
use Rattle.job.specs.declared.records.Strategy.{Strategy}
use Rattle.job.specs.declared.records.Strategy.TheVariants.{Simple, InkTrap, ByDistance}
use Rattle.job.specs.Records.{by_distance}
use Rattle.job.specs.Buffers.{buffers_in}
use Rattle.job.specs.Job.{read_job}
use Rattle.job.specs.Progress.{answer_of, read_answer}
use Rattle.job.specs.Color.{paired, check_file}
use Rattle.job.proofs.AnswerLaws.{color-answer}
use Rattle.job.proofs.PassedOn.{passed_on}
use Rattle.job.proofs.color.AcceptLaws.{held-checked, check_unread, paired_refused}
use Rattle.job.proofs.color.ColorLaws.{Holding, fits_jobs, holding_of, held_room}
use Rattle.job.proofs.color.check_in.Goals as goal
use Rattle.job.proofs.color.check_in.Goals.{In_ok-n, After-fill, After-collect_splines}

only : (by : Strategy) → by_distance by ≡ true → by ≡ ByDistance
only Simple h = cc
only InkTrap h = cc
only ByDistance h = refl

-- a file that was read
numbers_are : (c : In_ok-n) → gives c.in_ok-n.n ≡ answer_of (read_job c.args.file.now)
numbers_are c = sym (ap read_answer c.in_ok-n.was) ∙ c.scan.ensures

-- its job, written into the places
holding : (c : After-fill) → Holding c.args.file.now c.in_ok-n.n (buffers_in c.args.job.now) (buffers_in c.fill.new.buffers)
holding c = holding_of _ _ _ (numbers_are (goal.at.After-fill c).In_ok-n) _ c.fill.ensures.after

-- its splines, counted
counted : (c : After-collect_splines) → paired (colored_answer c.collect_splines.result) c.in_ok-n.n.distances ≡ check_file c.args.file.now
counted c =
    let asks = only _ (sym c.by_distance.ensures ∙ c.if-not-by_distance.false) in
    ap (λ (o : Outcome). paired o.answer c.in_ok-n.n.distances)
    (c.collect_splines.ensures.colored ∙ ap (λ (o : Outline). collect_splines o c.float.result (result_in c.args.out.now)) c.outline.ensures)
    ∙ held-checked (holding (goal.at.After-collect_splines c).After-fill) c.float.result (result_in c.args.out.now) c.requires.holds_results asks
    c.float.ensures

pub returns-in_err-n : goal.returns-in_err-n
returns-in_err-n c =
    ap colored_answer (passed_on c.from_residual.result c.from_residual.ensures.1)
    ∙ check_unread c.args.file.now (refusal_number c.in_err-n.field-0.0) (sym (ap read_answer c.in_err-n.was) ∙ c.scan.ensures)

pub returns-then-not-by_distance : goal.returns-then-not-by_distance
returns-then-not-by_distance c = ap (λ (o : Outcome). o.answer) c.color_in.ensures.colored ∙ color-answer _ _ c.requires.holds_results

pub fill-requires : goal.fill-requires
fill-requires c = fits_jobs _ _ _ (numbers_are (goal.at.fill-requires c).In_ok-n) c.requires.holds_jobs

pub outline-requires : goal.outline-requires
outline-requires c = held_room (holding (goal.at.outline-requires c).After-fill)

pub returns-in_err-counts : goal.returns-in_err-counts
returns-in_err-counts c =
    let number = refusal_number c.in_err-counts.field-0.0 in
    let distances = c.in_ok-n.n.distances in
    ap colored_answer (passed_on c.from_residual-in_err-counts.result c.from_residual-in_err-counts.ensures.1)
    ∙ paired_refused number distances ∙ ap (λ r. paired (colored_answer r) distances) (sym c.in_err-counts.was)
    ∙ counted (goal.at.returns-in_err-counts c).After-collect_splines

pub returns : goal.returns
returns c =
    c.paired.ensures ∙ ap (λ r. paired (colored_answer r) c.in_ok-n.n.distances) (sym c.in_ok-counts.was)
    ∙ counted (goal.at.returns c).After-collect_splines
