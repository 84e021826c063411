-- Lists each element of which has a property: at a place, in a part, and sorted.
use mathlib.Core.List.{List, [], ◌∷◌, ◌++◌, map}
use Prim.Native.Nat.{ℕ, zero, suc, ◌<◌}
use native.Mathlib.Omega.{arith}
use lib.Ieee.{Float, lt}
use lib.ListN.{length, get_or, take, drop}
use Rattle.coloring.specs.PairOrder.{insert_by, sort_by}
use Rattle.coloring.specs.Pairs.{Each}
use Rattle.coloring.specs.Bools.{split}
use Rattle.coloring.proofs.pair_order.InsertLaws.{insert_here, insert_later}

module _ {A : Type 0} (P : A → Type 0) where
  pub each_at : (l : List A) (d : A) → Each P l → (i : ℕ) → i < length l → P (get_or l i d)
  unfolding Each
  each_at [] d e i h = absurd (omega arith)
  each_at (x ∷ l) d e zero h = e.0
  each_at (x ∷ l) d e (suc i) h = each_at l d e.1 i (omega arith)

  pub each_take : (i : ℕ) (l : List A) → Each P l → Each P (take i l)
  unfolding Each
  each_take zero l e = tt
  each_take (suc i) [] e = tt
  each_take (suc i) (x ∷ l) e = (e.0, each_take i l e.1)

  pub each_drop : (i : ℕ) (l : List A) → Each P l → Each P (drop i l)
  unfolding Each
  each_drop zero l e = e
  each_drop (suc i) [] e = tt
  each_drop (suc i) (x ∷ l) e = each_drop i l e.1

  pub each_append : (xs ys : List A) → Each P xs → Each P ys → Each P (xs ++ ys)
  unfolding Each
  each_append [] ys d e = e
  each_append (x ∷ xs) ys d e = (d.0, each_append xs ys d.1 e)

  each_insert : (key : A → Float) (x : A) (l : List A) → P x → Each P l → Each P (insert_by key x l)
  unfolding Each insert_by
  each_insert key x [] h e = (h, tt)
  each_insert key x (y ∷ l) h e =
      let rest = each_insert key x l h e.1 in
      split (lt (key y) (key x)) (λ t. rw (insert_later key x y l t) (e.0, rest)) (λ t. rw (insert_here key x y l t) (h, e))

  pub each_sort : (key : A → Float) (l : List A) → Each P l → Each P (sort_by key l)
  unfolding Each sort_by
  each_sort key [] e = tt
  each_sort key (x ∷ l) e = each_insert key x (sort_by key l) e.0 (each_sort key l e.1)

pub each_map : {A B : Type 0} (P : B → Type 0) (f : A → B) (l : List A) → Each P (map f l) → Each (λ x. P (f x)) l
unfolding Each
each_map P f [] e = tt
each_map P f (x ∷ l) e = (e.0, each_map P f l e.1)
