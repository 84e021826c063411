-- `color_with_room` meets its contract: the order of the pairs, and the colours in that order.
use mathlib.Core.Path.{◌≡◌, refl, ap, ◌∙◌}
use mathlib.Core.List.{List, ◌∷◌, ◌++◌, map}
use Prim.Native.Nat.{ℕ, zero, suc, ◌*◌, ◌≤◌}
use native.Mathlib.Omega.{arith}
use lib.ListN.{length, take, drop, replicate, length-replicate}
use lib.Seq.{length-take-le, take_at}
use Rattle.std.proofs.Common.{rules}
use Rattle.coloring.specs.PairOrder.{pair_order}
use Rattle.coloring.specs.Pairs.{spline_pair}
use Rattle.coloring.specs.SplineColors.{offer_splines, color_in_order, color_splines}
use Rattle.coloring.specs.declared.pair_order.GraphEdge.{GraphEdge}
use Rattle.coloring.proofs.recolor.RowLaws.{square_below}
use Rattle.coloring.proofs.spline_colors.OrderLaws.{two_ordered}
use Rattle.coloring.proofs.spline_colors.color_with_room.Given.{Over}
use Rattle.coloring.proofs.spline_colors.color_with_room.Goals as goal
use Rattle.coloring.proofs.spline_colors.color_with_room.Goals.{After-order_pairs, After-default-edges, After-color_in_order}

take-replicate : (k m : ℕ) → k ≤ m → take k (replicate m 0) ≡ replicate {A = ℕ} k 0
take-replicate zero m h = refl
take-replicate (suc k) zero h = absurd (omega arith)
take-replicate (suc k) (suc m) h = ap (λ l. 0 ∷ l) (take-replicate k m (omega arith))

module _ (g : Over) (s : After-default-edges g) where
  abbrev n : ℕ
  n = length s.args.coloring.now

  abbrev m : ℕ
  m = length s.args.distances.now

  -- the places of pairs
  abbrev room : List GraphEdge
  room = replicate g.row.PAIRS s.default-edges.result

  square : n * n ≤ 4096
  square = square_below s.requires.valid.few

  most : m ≤ length room
  most = rw length-replicate s.requires.room.0

  part-size : length (take m room) ≡ m
  part-size = length-take-le m room most

-- the pairs, and the places beyond
module _ (g : Over) (c : After-order_pairs g) where
  abbrev start : After-default-edges g
  start = (goal.at.After-order_pairs g c).After-default-edges

  abbrev pairs : List GraphEdge
  pairs = c.order_pairs.new.edges

  pairs-size : length pairs ≡ m g start
  pairs-size = c.order_pairs.auto.edges ∙ part-size g start

  abbrev places : List GraphEdge
  places = pairs ++ drop (m g start) (room g start)

  front : take (m g start) places ≡ pairs
  front = take_at pairs (drop (m g start) (room g start)) (m g start) pairs-size

  ordered : map spline_pair (take (m g start) places) ≡ pair_order (n g start) c.args.distances.now
  ordered = ap (map spline_pair) front ∙ c.order_pairs.ensures

pub overflow_mul-size : goal.overflow_mul-size
overflow_mul-size g c = omega (arith, square_below c.requires.valid.few)

pub color_in_order-requires : goal.color_in_order-requires
color_in_order-requires g c =
    let after = (goal.at.color_in_order-requires g c).After-order_pairs in
    let s = start g after in
    record {
      few = c.requires.valid.few;
      pairs = two_ordered (n g s) c.args.distances.now _ (ordered g after);
      none = take-replicate (n g s * n g s) 4096 (square g s);
    }

module _ (g : Over) (c : After-color_in_order g) where
  colored : c.color_in_order.new.table.coloring.now ≡ color_splines (length c.args.coloring.now) c.args.distances.now c.args.seed
  unfolding offer_splines
  colored =
      let after = (goal.at.After-color_in_order g c).After-order_pairs in
      c.color_in_order.ensures.colored ∙ ap (λ l. color_in_order (n g (start g after)) l c.args.seed) (ordered g after)

pub returns : goal.returns
returns g c =
    let written = colored g (goal.at.returns g c).After-color_in_order in
    search (rules, written)
