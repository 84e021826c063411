-- `order_pairs` meets its contract: the pairs of the splines, sorted.
use Rattle.coloring.proofs.pair_order.SortedLaws.{only_sorted}
use Rattle.coloring.proofs.pair_order.order_pairs.Goals as goal

pub returns : goal.returns
returns c = only_sorted c.args.n c.args.distances.now c.requires.0 _ _ c.fill_pairs.ensures c.sort_unstable.ensures.permutation c.sort_unstable.ensures.sorted
