-- `color_in_order` meets its contract: the zero pairs, the starting colours, and the offers.
use mathlib.Core.Path.{◌≡◌, sym, ap, ◌∙◌, subst}
use mathlib.Core.List.{List, map}
use Prim.Native.Nat.{ℕ, ◌*◌}
use mathlib.Core.Bool.{not}
use Rattle.std.proofs.Common.{Option}
use Rattle.std.specs.List.{position}
use Rattle.std.specs.Option.{unwrap_or}
use lib.ListN.{length, length-replicate, take, drop}
use Rattle.coloring.specs.Pairs.{pair_of, spline_pair, TwoEach}
use Rattle.coloring.specs.SecondDegree.{color_second_degree_graph}
use Rattle.coloring.specs.SplineColors.{is_zero, zero_pairs, other_pairs}
use Rattle.coloring.specs.declared.pair_order.GraphEdge.{GraphEdge}
use Rattle.coloring.proofs.pair_order.EachLaws.{each_take, each_drop}
use Rattle.coloring.proofs.spline_colors.OrderLaws.{length_pairs, zeros_first, offerable, ends}
use Rattle.coloring.proofs.spline_colors.color_in_order.Goals as goal
use Rattle.coloring.proofs.spline_colors.color_in_order.Goals.{After-split_at, After-color_second_degree_graph}

module _ (c : After-split_at) where
  abbrev order : List GraphEdge
  order = c.args.order.now

  size : length c.args.table.now.edge_matrix.now ≡ length c.args.table.now.coloring.now * length c.args.table.now.coloring.now
  size = ap length c.requires.none ∙ length-replicate _ 0

  zeros : TwoEach (length c.args.table.now.coloring.now) c.split_at.result.0.now
  zeros = subst (TwoEach _) (sym c.split_at.ensures.front) (each_take _ c.unwrap_or-zero_count.result order c.requires.pairs)

  others : TwoEach (length c.args.table.now.coloring.now) c.split_at.result.1.now
  others = subst (TwoEach _) (sym c.split_at.ensures.back) (each_drop _ c.unwrap_or-zero_count.result order c.requires.pairs)

  count : c.unwrap_or-zero_count.result ≡ unwrap_or (position (λ e. not (is_zero (spline_pair e))) order) (length order)
  count = c.unwrap_or-zero_count.ensures ∙ ap (λ (o : Option ℕ). unwrap_or o (length order)) c.first_not_zero.ensures

  zeros-are : map pair_of c.split_at.result.0.now ≡ zero_pairs (map spline_pair order)
  zeros-are = ap (map pair_of) (c.split_at.ensures.front ∙ ap (λ (k : ℕ). take k order) count) ∙ (zeros_first order).0

  others-are : map pair_of c.split_at.result.1.now ≡ other_pairs (map spline_pair order)
  others-are = ap (map pair_of) (c.split_at.ensures.back ∙ ap (λ (k : ℕ). drop k order) count) ∙ (zeros_first order).1

pub enter_pairs-requires : goal.enter_pairs-requires
enter_pairs-requires c = let s = (goal.at.enter_pairs-requires c).After-split_at in record { size = size s; pairs = zeros s }

pub invariant_of-entered-clause-square : goal.invariant_of-entered-clause-square
invariant_of-entered-clause-square c =
    let s = (goal.at.invariant_of-entered-clause-square c).After-split_at in
    let entered = c.enter_pairs.ensures in
    rw entered.colors (ap length entered.entered ∙ length_pairs _ _ _ ∙ size s)

module _ (c : After-color_second_degree_graph) where
  starting : c.color_second_degree_graph.new.coloring
      ≡ color_second_degree_graph (length c.args.table.now.coloring.now) c.enter_pairs.new.table.edge_matrix.now c.args.seed
  starting = rw c.enter_pairs.ensures.colors at c.color_second_degree_graph.ensures

pub offer_pairs-requires : goal.offer_pairs-requires
offer_pairs-requires c =
    let s = (goal.at.offer_pairs-requires c).After-split_at in
    let g = (goal.at.offer_pairs-requires c).After-color_second_degree_graph in
    offerable _ _ _ _ _ _ _ c.args.seed c.requires (zeros-are s) (others-are s) c.enter_pairs.ensures.entered (starting g) (zeros s) (others s)

pub returns-clause-colored : goal.returns-clause-colored
returns-clause-colored c =
    let s = (goal.at.returns-clause-colored c).After-split_at in
    let g = (goal.at.returns-clause-colored c).After-color_second_degree_graph in
    ends _ _ _ _ _ _ _ c.args.seed c.requires (zeros-are s) (others-are s) c.enter_pairs.ensures.entered (starting g) _ c.offer_pairs.ensures.offered
