-- `job::part::contour_place` meets its contract.
use Rattle.std.proofs.Common.{◌≡◌, true, not, sym, ap, ◌∙◌, rules}
use Rattle.coloring.specs.Answers.{succeeds}
use Rattle.job.specs.Job.{Reading}
use Rattle.job.specs.Color.{accepted}
use Rattle.job.specs.Part.{nowhere, place_in, contour_place}
use Rattle.job.proofs.part.PartLaws.{place-refused}
use Rattle.job.proofs.color.AcceptLaws.{accepted_same, succeeds_ok}
use Rattle.job.proofs.part.contour_place.Goals as goal
use Rattle.job.proofs.part.contour_place.Goals.{After-is_err, Else-is_err}

tested : (c : After-is_err) → accepted c.args.file.now ≡ not c.is_err.result
tested c = succeeds_ok _ _ c.accept.ensures ∙ c.is_err.ensures.negation

is_accepted : (c : Else-is_err) → accepted c.args.file.now ≡ true
is_accepted c = tested (goal.at.Else-is_err c).After-is_err ∙ ap not c.if-is_err.false

pub returns-then-is_err-clause-value : goal.returns-then-is_err-clause-value
returns-then-is_err-clause-value c =
    let none : c.default.result ≡ nowhere = search rules in
    none ∙ sym (place-refused c.args.file.now c.args.number (tested (goal.at.returns-then-is_err-clause-value c).After-is_err ∙ ap not c.if-is_err.true))

pub contour_span-requires : goal.contour_span-requires
contour_span-requires c =
    let accepted = is_accepted (goal.at.contour_span-requires c).Else-is_err in
    ap succeeds (accepted_same c.args.file.now accepted) ∙ accepted

pub returns-clause-value : goal.returns-clause-value
unfolding contour_place
returns-clause-value c =
    c.contour_span.ensures.value
    ∙ ap (λ (r : Reading). place_in r c.args.number)
    (accepted_same c.args.file.now (is_accepted (goal.at.returns-clause-value c).Else-is_err))
