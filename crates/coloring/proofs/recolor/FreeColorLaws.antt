-- The free colours of a spline: how `uses` goes along a row, the range of `vertex_possible_colors`, the colours taken
-- of a set, and the forced colour.
use mathlib.Core.Path.{◌≡◌, refl}
use mathlib.Core.Logic.{◌≢◌}
use mathlib.Core.Bool.{Bool, true, false, not, ◌&&◌, ◌||◌, cond, true≢false, false≢true}
use mathlib.Core.List.{List, [], ◌∷◌}
use Prim.Native.Nat.{ℕ, zero, suc, ◌+◌, ◌-◌, ◌*◌, ◌%◌, ◌^◌, ◌≤◌, ◌<◌}
use native.Mathlib.Nat.{not-suc-le-zero, le_of_suc-le-suc}
use native.Mathlib.Omega.{arith}
use native.Mathlib.Numerals.{add-one}
use lib.Dec.{eqb}
use lib.ListN.{length, drop, get_or, drop_of_length-le}
use lib.Seq.{drop-cons}
use borrow.Author.Tests.{eq-eqb, ne_eqb, eqb-true}
use Rattle.coloring.specs.Recolor.{uses, vertex_possible_colors, first_possible_color, joined, forced_step}
use Rattle.coloring.specs.Bools.{neither}

pub uses-step : (c : ℕ) (xs ys : List ℕ) (i : ℕ) → i < length xs → i < length ys
    → uses c (drop i xs) (drop i ys) ≡ (not (eqb (get_or ys i 0) 0) && eqb (get_or xs i 0) c || uses c (drop (i + 1) xs) (drop (i + 1) ys))
unfolding uses
uses-step c xs ys i hx hy = rw (drop-cons xs i 0, drop-cons ys i 0, add-one)

pub uses_end : (c : ℕ) (xs ys : List ℕ) (i : ℕ) → length xs ≤ i → uses c (drop i xs) ys ≡ false
unfolding uses
uses_end c xs ys i h = rw (drop_of_length-le xs h)

cond_below : (x : Bool) (k : ℕ) → cond x 0 k ≤ k
cond_below true k = omega arith
cond_below false k = omega arith

pub possible-below : (coloring entries : List ℕ) → vertex_possible_colors coloring entries < 8
unfolding vertex_possible_colors
possible-below coloring entries =
    omega (arith, cond_below (uses 0 coloring entries) 1, cond_below (uses 1 coloring entries) 2, cond_below (uses 2 coloring entries) 4)

-- where no colour is free, each is used
pub none_free : (coloring entries : List ℕ) → vertex_possible_colors coloring entries ≡ 0 → (c : ℕ) → c < 3 → uses c coloring entries ≡ true
unfolding vertex_possible_colors
none_free coloring entries e c h = all (uses 0 coloring entries) (uses 1 coloring entries) (uses 2 coloring entries) refl refl refl e c h
  where
    all : (x y z : Bool) → uses 0 coloring entries ≡ x → uses 1 coloring entries ≡ y → uses 2 coloring entries ≡ z
        → cond x 0 1 + cond y 0 2 + cond z 0 4 ≡ 0 → (c : ℕ) → c < 3 → uses c coloring entries ≡ true
    all true true true p q r e zero h = p
    all true true true p q r e (suc zero) h = q
    all true true true p q r e (suc (suc zero)) h = r
    all true true true p q r e (suc (suc (suc c))) h = absurd (omega arith)
    all true true false p q r e c h = absurd (omega arith)
    all true false z p q r e c h = absurd (omega arith)
    all false y z p q r e c h = absurd (omega arith)

-- a spline that the row joins has the colour c
pub record UsedBy (c : ℕ) (xs ys : List ℕ) : Type 0 where
  pub spline : ℕ
  pub inside : spline < length xs
  pub joins : joined ys spline ≡ true
  pub has : get_or xs spline 0 ≡ c

pub used_by : (c : ℕ) (xs ys : List ℕ) → uses c xs ys ≡ true → UsedBy c xs ys
unfolding uses joined
used_by c [] ys e = absurd (false≢true e)
used_by c (x ∷ xs) [] e = absurd (false≢true e)
used_by c (x ∷ xs) (y ∷ ys) e = here (not (eqb y 0)) (eqb x c) refl refl e (used_by c xs ys)
  where
    later : UsedBy c xs ys → UsedBy c (x ∷ xs) (y ∷ ys)
    later u = record { spline = suc u.spline; inside = omega arith; joins = u.joins; has = u.has }

    here : (p q : Bool) → not (eqb y 0) ≡ p → eqb x c ≡ q → (p && q || uses c xs ys) ≡ true → (uses c xs ys ≡ true → UsedBy c xs ys)
        → UsedBy c (x ∷ xs) (y ∷ ys)
    here true true j h e rest = record { spline = zero; inside = omega arith; joins = j; has = eqb-true x c h }
    here true false j h e rest = later (rest e)
    here false q j h e rest = later (rest e)

-- a colour that is not used is no neighbour's
pub uses_false : (c : ℕ) (coloring entries : List ℕ) → uses c coloring entries ≡ false
    → (j : ℕ) → j < length coloring → get_or entries j 0 ≢ 0 → get_or coloring j 0 ≢ c
unfolding uses
uses_false c [] entries e j h k q = not-suc-le-zero h
uses_false c (x ∷ coloring) [] e j h k q = k refl
uses_false c (x ∷ coloring) (y ∷ entries) e zero h k q =
    let here : (not (eqb y 0) && eqb x c) ≡ false = (neither _ _ e).0 in
    true≢false (rw (ne_eqb y 0 k, eq-eqb x c q) at here)
uses_false c (x ∷ coloring) (y ∷ entries) e (suc j) h k q =
    uses_false c coloring entries (neither (not (eqb y 0) && eqb x c) _ e).1 j (le_of_suc-le-suc h) k q

-- the colour taken of the free ones, where there is one, is a colour, and not used
pub record Free (coloring entries : List ℕ) (c : ℕ) : Type 0 where
  pub color : c < 3
  pub unused : uses c coloring entries ≡ false

pub possible_free : (coloring entries : List ℕ) → eqb (vertex_possible_colors coloring entries) 0 ≡ false
    → Free coloring entries (first_possible_color (vertex_possible_colors coloring entries))
unfolding vertex_possible_colors first_possible_color
possible_free coloring entries = go (uses 0 coloring entries) (uses 1 coloring entries) (uses 2 coloring entries) refl refl refl
  where
    go : (x y z : Bool) → uses 0 coloring entries ≡ x → uses 1 coloring entries ≡ y → uses 2 coloring entries ≡ z
        → eqb (cond x 0 1 + cond y 0 2 + cond z 0 4) 0 ≡ false
        → Free coloring entries (first_possible_color (cond x 0 1 + cond y 0 2 + cond z 0 4))
    go true true true p q r e = absurd (true≢false e)
    go true true false p q r e = record { color = omega arith; unused = r }
    go true false true p q r e = record { color = omega arith; unused = q }
    go true false false p q r e = record { color = omega arith; unused = q }
    go false true true p q r e = record { color = omega arith; unused = p }
    go false true false p q r e = record { color = omega arith; unused = r }
    go false false true p q r e = record { color = omega arith; unused = p }
    go false false false p q r e = record { color = omega arith; unused = p }

-- ---- the forced colour

-- the colour of this step does not meet a's
pub forced-here : (joined_to_a : Bool) (c step : ℕ) → (joined_to_a && eqb (step % 3) c) ≡ false → forced_step joined_to_a c step ≡ step
unfolding forced_step
forced-here joined_to_a c step e = rw e

-- it does, and the next one's does not
pub forced-next : (joined_to_a : Bool) (c step : ℕ) → (joined_to_a && eqb (step % 3) c) ≡ true
    → (forced_step joined_to_a c step ≡ suc step) × (forced_step joined_to_a c (step + 1) ≡ suc step)
unfolding forced_step
forced-next false c step e = absurd (false≢true e)
forced-next true c step e =
    let same : step % 3 ≡ c = eqb-true (step % 3) c e in
    let other : eqb ((step + 1) % 3) c ≡ false = ne_eqb ((step + 1) % 3) c (λ f. omega arith) in
    (rw e, rw (other, add-one))

pub step_rises : (joined_to_a : Bool) (c step : ℕ) → (step ≤ forced_step joined_to_a c step) × (forced_step joined_to_a c step ≤ suc step)
unfolding forced_step
step_rises joined_to_a c step = one (joined_to_a && eqb (step % 3) c)
  where
    one : (b : Bool) → (step ≤ cond b (suc step) step) × (cond b (suc step) step ≤ suc step)
    one true = omega arith
    one false = omega arith

-- ---- the two other colours

pub shifted : (c : ℕ) → c < 3 → 1 * 2 ^ c % 256 ≡ 2 ^ c
shifted zero h = refl
shifted (suc zero) h = refl
shifted (suc (suc zero)) h = refl
shifted (suc (suc (suc c))) h = absurd (omega arith)

pub others : (c : ℕ) → c < 3 → (2 ^ c ≤ 7) × (7 - 2 ^ c < 8) × (first_possible_color (7 - 2 ^ c) < 3)
unfolding first_possible_color
others zero h = omega arith
others (suc zero) h = omega arith
others (suc (suc zero)) h = omega arith
others (suc (suc (suc c))) h = absurd (omega arith)
