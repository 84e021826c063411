-- `color_splines` meets its contract: the refusal of the checks, or the colours.
use mathlib.Core.Path.{refl, sym, ap, ◌∙◌}
use lib.ListN.{length}
use Rattle.std.proofs.lemmas.Result.{err_from_is_err_and}
use Rattle.coloring.specs.Answers.{checked_answer}
use Rattle.coloring.proofs.spline_colors.CheckLaws.{check-passed, splines-refused, splines-passed}
use Rattle.coloring.proofs.spline_colors.color_splines.Goals as goal

pub returns-in_err-check_splines : goal.returns-in_err-check_splines
returns-in_err-check_splines c =
    let a = c.args in
    let p = err_from_is_err_and c.from_residual.result c.from_residual.ensures.1 in
    rw (p.1, p.2) (splines-refused a.distances.now a.seed a.coloring.now refl (sym (ap checked_answer c.in_err-check_splines.was) ∙ c.check_splines.ensures))

pub color_valid-requires : goal.color_valid-requires
color_valid-requires c =
    let a = c.args in
    check-passed (length a.coloring.now) a.distances.now
    (sym c.check_splines.ensures ∙ ap checked_answer c.in_ok-check_splines.was)

pub returns : goal.returns
returns c =
    let a = c.args in
    splines-passed a.distances.now a.seed a.coloring.now refl
    (sym (ap checked_answer c.in_ok-check_splines.was) ∙ c.check_splines.ensures) c.color_valid.ensures
