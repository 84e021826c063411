-- `valid_distance` meets its contract.
use lib.Ieee.{div, of_bits}
use Rattle.coloring.specs.PairOrder.{valid_distance}
use Rattle.coloring.proofs.pair_order.valid_distance.Goals as goal

pub returns-then-d : goal.returns-then-d
unfolding valid_distance div of_bits
returns-then-d c = rw c.if-d.true

pub returns-else-d : goal.returns-else-d
unfolding valid_distance
returns-else-d c = rw c.if-d.false
