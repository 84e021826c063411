-- `add_edge_by_walk` meets its contract: the walk on the first n places of a copy, and then the copy taken over or the
-- pair taken out.
use mathlib.Core.Path.{◌≡◌, sym, ap, ap₂, ◌∙◌}
use mathlib.Core.List.{List, ◌++◌}
use Prim.Native.Nat.{ℕ}
use lib.ListN.{length, take, drop, replicate}
use lib.Seq.{length-take-le, take_at}
use Rattle.coloring.specs.Recolor.{Walk, ended}
use Rattle.coloring.specs.SplineTable.{kept, declined, Offered, outcome, settled, walked_on}
use Rattle.coloring.specs.declared.spline_table.Offer.{Offer}
use Rattle.coloring.proofs.recolor.RowLaws.{pair_inside}
use Rattle.coloring.proofs.spline_table.SplineTable.add_edge_by_walk.Goals as goal
use Rattle.coloring.proofs.spline_table.SplineTable.add_edge_by_walk.Goals.{After-recolor-offer}

abbrev zeros : List ℕ
zeros = replicate 64 0

module _ (c : After-recolor-offer) where
  abbrev coloring : List ℕ
  coloring = c.args.self.now.coloring.now

  abbrev edge_matrix : List ℕ
  edge_matrix = c.args.self.now.edge_matrix.now

  abbrev n : ℕ
  n = length coloring

  abbrev after : List ℕ
  after = c.recolor-offer.new.buffer

  -- what is left of the offer goes by the end of the walk
  abbrev left : Offer → Offered
  left o = settled (ended o after) coloring edge_matrix c.args.a c.args.b

  by_end : (o : Offer) → c.recolor-offer.result ≡ o → left o ≡ walked_on coloring edge_matrix c.args.a c.args.b
  unfolding walked_on
  by_end o e = ap left (sym e) ∙ ap (λ (w : Walk). settled w coloring edge_matrix c.args.a c.args.b) c.recolor-offer.ensures

  front : take n (after ++ drop n zeros) ≡ after
  front = take_at after (drop n zeros) n (c.recolor-offer.auto.buffer ∙ length-take-le n zeros c.requires.few)

pub enter_pair-requires : goal.enter_pair-requires
enter_pair-requires c = pair_inside c.requires

pub returns-in-Kept-clause-answer : goal.returns-in-Kept-clause-answer
returns-in-Kept-clause-answer c =
    let r = (goal.at.returns-in-Kept-clause-answer c).After-recolor-offer in
    let taken = c.copy_from_slice.ensures.after ∙ front r in
    rw c.in-Kept.is (ap (λ (l : List ℕ). outcome (kept c.in-Kept.field-0) l (edge_matrix r)) taken ∙ by_end r _ c.in-Kept.is)

pub returns-in-Declined-clause-answer : goal.returns-in-Declined-clause-answer
returns-in-Declined-clause-answer c =
    let r = (goal.at.returns-in-Declined-clause-answer c).After-recolor-offer in
    rw c.in-Declined.is (ap₂ (outcome (declined c.in-Declined.field-0)) c.enter_pair.ensures.colors c.enter_pair.ensures.entered
    ∙ by_end r _ c.in-Declined.is)
