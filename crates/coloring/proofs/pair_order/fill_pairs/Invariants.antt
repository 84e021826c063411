-- `fill_pairs` meets its contract: what is written, and the pairs from (a, b) on, are the whole.
use Prim.Native.Nat.{◌-◌}
use Rattle.coloring.specs.PairOrder.{pairs_from}
use Rattle.coloring.proofs.pair_order.PairLaws.{pairs_on, Written}
use Rattle.coloring.proofs.pair_order.fill_pairs.Given as goal

abbrev pub invariant-loop-b : goal.invariant-loop-b
invariant-loop-b l = Written l.n l.distances l.edges l.k (pairs_on l.n l.a l.b)

abbrev pub invariant-loop-a : goal.invariant-loop-a
invariant-loop-a l = Written l.n l.distances l.edges l.k (pairs_from l.a (l.n - l.a))
