-- The answers for `fill_pairs`, by the invariants of Invariants.antt.
use mathlib.Core.Path.{refl, sym, subst, ◌∙◌}
use mathlib.Core.List.{◌∷◌}
use Prim.Native.Nat.{ℕ, ◌+◌}
use native.Mathlib.Nat.{sub-zero}
use native.Mathlib.Omega.{arith}
use Rattle.coloring.proofs.pair_order.PairLaws.{pairs_on, row_starts, row_goes_on, row_ends, rows_end, Written, written_none, write_next, written_all}
use Rattle.coloring.proofs.pair_order.PairLaws.{pairs-count}
use Rattle.coloring.proofs.pair_order.fill_pairs.Goals as goal
use Rattle.coloring.proofs.pair_order.fill_pairs.Goals.{In-loop-b}

-- the next pair is (a, b)
module _ (c : In-loop-b) where
  abbrev n : ℕ
  n = c.args.n

  abbrev a : ℕ
  a = c.loop-a.a

  abbrev b : ℕ
  b = c.loop-b.b

  left : Written n c.args.distances.now c.loop-b.edges c.loop-b.k (record { a = a; b = b } ∷ pairs_on n a (b + 1))
  left = subst (Written n _ _ _) (row_goes_on n a b c.loop-b-test.true) c.loop-b.invariant

pub loop-a-init : goal.loop-a-init
loop-a-init c =
    rw sub-zero (written_none c.args.n c.args.distances.now _ c.requires.1 (pairs-count c.args.n ∙ sym c.requires.0.count))

pub loop-b-init : goal.loop-b-init
loop-b-init c = subst (Written _ _ _ _) (row_starts _ c.loop-a.a c.loop-a-test.true) c.loop-a.invariant

pub bounds-distances-k : goal.bounds-distances-k
bounds-distances-k c = omega (arith, (left (goal.at.bounds-distances-k c).In-loop-b).room)

pub bounds-edges-k : goal.bounds-edges-k
bounds-edges-k c = let l = left (goal.at.bounds-edges-k c).In-loop-b in omega (arith, l.room, l.size)

pub loop-b-preserved : goal.loop-b-preserved
loop-b-preserved c = write_next _ _ _ _ _ _ _ refl (left (goal.at.loop-b-preserved c).In-loop-b)

pub loop-a-preserved : goal.loop-a-preserved
loop-a-preserved c = subst (Written _ _ _ _) (row_ends _ _ c.loop-b.b c.loop-b-test.false) c.loop-b.invariant

pub returns : goal.returns
returns c = written_all _ _ _ _ (subst (Written _ _ _ _) (rows_end _ c.loop-a.a c.loop-a-test.false) c.loop-a.invariant)
