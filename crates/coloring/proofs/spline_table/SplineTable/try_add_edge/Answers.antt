-- `try_add_edge` meets its contract: the refusal of the checks, with the table as it came, or the rule.
use mathlib.Core.Path.{sym, ap, ◌∙◌}
use Rattle.std.proofs.lemmas.Result.{err_from_is_err_and}
use Rattle.coloring.specs.Answers.{checked_answer}
use Rattle.coloring.specs.SplineTable.{table_in}
use Rattle.coloring.proofs.spline_table.OfferLaws.{unrefused_offerable, passed_unrefused, offer_refused, offer_rule}
use Rattle.coloring.proofs.spline_table.SplineTable.try_add_edge.Goals as goal

pub returns-in_err-check_offer-clause-answer : goal.returns-in_err-check_offer-clause-answer
returns-in_err-check_offer-clause-answer c =
    let p = err_from_is_err_and c.from_residual.result c.from_residual.ensures.1 in
    rw (p.1, p.2) (sym (offer_refused (table_in c.args.self.now) c.args.a c.args.b
    (sym c.check_offer.ensures ∙ ap checked_answer c.in_err-check_offer.was)))

pub try_add_edge_unchecked-requires : goal.try_add_edge_unchecked-requires
try_add_edge_unchecked-requires c =
    unrefused_offerable (table_in c.args.self.now) c.args.a c.args.b
    (passed_unrefused _ _ _ (sym c.check_offer.ensures ∙ ap checked_answer c.in_ok-check_offer.was))

pub returns-clause-answer : goal.returns-clause-answer
returns-clause-answer c =
    c.try_add_edge_unchecked.ensures.answer
    ∙ sym (offer_rule (table_in c.args.self.now) c.args.a c.args.b
    (passed_unrefused _ _ _ (sym c.check_offer.ensures ∙ ap checked_answer c.in_ok-check_offer.was)))
