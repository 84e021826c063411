-- The splines that wait: they are as many as there are places at most, one more may wait once it has lost its colour,
-- and the first may be taken off once it has one.
use mathlib.Core.Path.{◌≡◌, sym, ◌∙◌}
use mathlib.Core.Logic.{◌≢◌}
use mathlib.Core.Bool.{Bool, true, false, cond}
use mathlib.Core.List.{List, [], ◌∷◌, ◌++◌}
use Prim.Native.Nat.{ℕ, zero, suc, ◌+◌, ◌≤◌, ◌<◌}
use native.Mathlib.Omega.{arith}
use lib.Dec.{eqb}
use lib.ListN.{length, get_or, set, length-set}
use lib.Seq.{get_or-set_same, get_or-set_other, set-set, set_comm}
use borrow.Author.Tests.{eq-eqb}
use Rattle.coloring.specs.Recolor.{uncolored, Waiting}

-- a spline without a colour is one of the table
pub uncolored-inside : (coloring : List ℕ) (i : ℕ) → get_or coloring i 0 ≡ uncolored → i < length coloring
unfolding uncolored
uncolored-inside [] i e = absurd (omega arith)
uncolored-inside (x ∷ coloring) zero e = omega arith
uncolored-inside (x ∷ coloring) (suc i) e = omega (arith, uncolored-inside coloring i e)

-- how many have no colour
count : List ℕ → ℕ
count [] = zero
count (x ∷ coloring) = cond (eqb x 3) 1 0 + count coloring

one_at_most : (b : Bool) → cond b 1 0 ≤ 1
one_at_most true = omega arith
one_at_most false = omega arith

count-le : (coloring : List ℕ) → count coloring ≤ length coloring
unfolding count
count-le [] = omega arith
count-le (x ∷ coloring) = omega (arith, one_at_most (eqb x 3), count-le coloring)

count_set : (coloring : List ℕ) (i : ℕ) → get_or coloring i 0 ≡ 3 → suc (count (set coloring i 0)) ≡ count coloring
unfolding count
count_set [] i e = absurd (omega arith)
count_set (x ∷ coloring) zero e = rw (eq-eqb x 3 e) (omega arith)
count_set (x ∷ coloring) (suc i) e = omega (arith, count_set coloring i e)

count-queue : (coloring queue : List ℕ) → Waiting coloring queue → length queue ≤ count coloring
unfolding Waiting
count-queue coloring [] w = omega arith
count-queue coloring (i ∷ queue) w = omega (arith, count-queue (set coloring i 0) queue w.1, count_set coloring i w.0)

pub waiting_length : (coloring queue : List ℕ) → Waiting coloring queue → length queue ≤ length coloring
waiting_length coloring queue w = omega (arith, count-queue coloring queue w, count-le coloring)

-- a spline that has a colour may take another
waiting_recolor : (coloring queue : List ℕ) (i x : ℕ) → Waiting coloring queue → get_or coloring i 0 ≢ uncolored
    → Waiting (set coloring i x) queue
unfolding Waiting
waiting_recolor coloring [] i x w h = tt
waiting_recolor coloring (j ∷ queue) i x w h =
    let other : j ≢ i = λ e. h (rw (← e) w.0) in (
      get_or-set_other coloring i j x 0 other ∙ w.0,
      rw (set_comm coloring i j x 0 (λ e. other (sym e)))
          (waiting_recolor (set coloring j 0) queue i x w.1 (rw (get_or-set_other coloring j i 0 0 (λ e. other (sym e))) h)),
    )

-- it loses its colour, and waits at the end
pub waiting_push : (coloring queue : List ℕ) (i : ℕ) → Waiting coloring queue → get_or coloring i 0 ≢ uncolored → i < length coloring
    → Waiting (set coloring i uncolored) (queue ++ (i ∷ []))
unfolding Waiting
waiting_push coloring [] i w h k = (get_or-set_same coloring i uncolored 0 k, tt)
waiting_push coloring (j ∷ queue) i w h k =
    let other : j ≢ i = λ e. h (rw (← e) w.0) in (
      get_or-set_other coloring i j uncolored 0 other ∙ w.0,
      rw (set_comm coloring i j uncolored 0 (λ e. other (sym e)))
          (waiting_push (set coloring j 0) queue i w.1 (rw (get_or-set_other coloring j i 0 0 (λ e. other (sym e))) h) (rw length-set k)),
    )

-- the first is taken off, and takes a colour
pub waiting_pop : (coloring queue : List ℕ) (i x : ℕ) → Waiting coloring (i ∷ queue) → Waiting (set coloring i x) queue
unfolding Waiting
waiting_pop coloring queue i x w =
    let inside : i < length coloring = uncolored-inside coloring i w.0 in
    rw set-set at (waiting_recolor (set coloring i 0) queue i x w.1 (rw (get_or-set_same coloring i 0 0 inside) (λ e. omega arith)))
