-- `job::color::color_in` meets its contract: the refusal of reading, or the colouring of what was read.
use Rattle.std.proofs.Common.{◌≡◌, sym, ◌∙◌, ap, take, length-take-le}
use Rattle.coloring.specs.Answers.{gives}
use Rattle.coloring.specs.Refusal.{refusal_number}
use Rattle.coloring.specs.Outline.{Outline, outcome, colored_answer, result_in}
use Rattle.coloring.specs.EdgeColoring.{edge_coloring}
use Rattle.job.specs.Buffers.{buffers_in}
use Rattle.job.specs.Job.{read_job}
use Rattle.job.specs.Progress.{answer_of, read_answer}
use Rattle.job.proofs.PassedOn.{passed_on}
use Rattle.job.proofs.color.ColorLaws.{Holding, fits_jobs, holding_of, color-refused, held-colored, held_room, distances-within}
use Rattle.job.proofs.color.color_in.Goals as goal
use Rattle.job.proofs.color.color_in.Goals.{In_ok-n, After-fill}

-- a file that was read
numbers_are : (c : In_ok-n) → gives c.in_ok-n.n ≡ answer_of (read_job c.args.file.now)
numbers_are c = sym (ap read_answer c.in_ok-n.was) ∙ c.scan.ensures

-- its job, written into the places
holding : (c : After-fill) → Holding c.args.file.now c.in_ok-n.n (buffers_in c.args.job.now) (buffers_in c.fill.new.buffers)
holding c = holding_of _ _ _ (numbers_are (goal.at.After-fill c).In_ok-n) _ c.fill.ensures.after

pub returns-in_err-n-clause-colored : goal.returns-in_err-n-clause-colored
returns-in_err-n-clause-colored c =
    let number = refusal_number c.in_err-n.field-0.0 in
    ap (λ r. outcome (colored_answer r) (result_in c.args.out.now)) (passed_on c.from_residual.result c.from_residual.ensures.1)
    ∙ color-refused c.args.file.now number (result_in c.args.out.now) (sym (ap read_answer c.in_err-n.was) ∙ c.scan.ensures)

pub fill-requires : goal.fill-requires
fill-requires c = fits_jobs _ _ _ (numbers_are (goal.at.fill-requires c).In_ok-n) c.requires

pub outline-requires : goal.outline-requires
outline-requires c = held_room (holding (goal.at.outline-requires c).After-fill)

pub returns-clause-colored : goal.returns-clause-colored
returns-clause-colored c =
    let held = holding (goal.at.returns-clause-colored c).After-fill in
    c.edge_coloring.ensures.colored
    ∙ ap (λ (o : Outline). edge_coloring c.settings.result o (take c.in_ok-n.n.distances c.fill.new.buffers.distances.now) (result_in c.args.out.now))
    c.outline.ensures
    ∙ held-colored held c.settings.result (result_in c.args.out.now) c.settings.ensures

pub slice_bounds-edge_coloring-end : goal.slice_bounds-edge_coloring-end
slice_bounds-edge_coloring-end c = sym (length-take-le _ _ (distances-within (holding (goal.at.slice_bounds-edge_coloring-end c).After-fill)))
