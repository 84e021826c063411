-- The pairs sorted by `sort_unstable` are the pairs in order: the order of the code's pairs is total, a rearrangement
-- keeps them apart, and `OnlyOrder` says that no other list of them is in order.
use mathlib.Core.Path.{◌≡◌, refl, sym, ap, ap₂, ◌∙◌, subst}
use mathlib.Core.Logic.{inl, inr, ⊎_elim, ◌≢◌}
use mathlib.Core.Bool.{Bool, true, false, cond, false≢true}
use mathlib.Core.List.Memᴰ
use mathlib.Core.List.{List, [], ◌∷◌, map, Memᴰ}
use Prim.Native.Nat.{ℕ, zero, suc, ◌<◌}
use native.Mathlib.Decide.{ℕ_discrete, dec_lt}
use native.Mathlib.Omega.{arith}
use lib.Dec.{ltb, eqb}
use lib.Ieee.{Float, nan, lt, is_nan}
use lib.ListN.{length, get_or, length-map}
use borrow.Author.Tests.{ltb-false, eqb-false, eqb-true}
use Rattle.std.specs.declared.cmp.Ordering.{Ordering}
use Rattle.std.specs.declared.cmp.Ordering.TheVariants.{Less, Equal, Greater}
use Rattle.std.specs.Cmp.{IsStrictWeakOrder, IsTotalOrder, on_total}
use Rattle.std.specs.List.{Contains, swap}
use Rattle.std.specs.List.Sorted.{IsPermutation, IsSorted}
use Rattle.std.specs.Ordering.{is_lt, nat_cmp, nan_last_cmp, ordering_then}
use Rattle.std.proofs.lemmas.Cmp.{nat_cmp_total, then_total}
use Rattle.std.proofs.lemmas.Float.{nan_last}
use Rattle.std.proofs.lemmas.List.Edits.{Swapped, swapped_from_swap}
use Rattle.std.proofs.lemmas.List.MinMax.{ranks_by}
use Rattle.std.proofs.lemmas.List.Sorted.{sorted_far, length_permutation, IsPermutation-map, IsPermutation-swap}
use Rattle.std.proofs.lemmas.List.Sorted.{IsPermutation-sym, IsPermutation-keeps, Contains-permutation}
use Rattle.coloring.specs.declared.pair_order.GraphEdge.{GraphEdge}
use Rattle.coloring.specs.Sequence.{Pair}
use Rattle.coloring.specs.PairOrder.{valid_distance, ValidDistances, pairs_from, SplinePair, with_distances, pair_order}
use Rattle.coloring.specs.Pairs.{spline_pair, pair_of}
use Rattle.coloring.proofs.Lists.{get_d_any, get_or_mapped}
use Rattle.coloring.proofs.pair_order.DistanceLaws.{valid_number}
use Rattle.coloring.proofs.pair_order.OnlyOrder.{BeforePair, Before, Sequence, Valid, distances-valid, distances_sequence, from_sequence, order_members}

-- the order of the code's pairs
abbrev pub edge_cmp : GraphEdge → GraphEdge → Ordering
edge_cmp x y = ordering_then (nan_last_cmp x.distance.0 y.distance.0) (ordering_then (nat_cmp x.a y.a) (nat_cmp x.b y.b))

edges-total : IsTotalOrder edge_cmp
edges-total = then_total (on_total (λ (x : GraphEdge). x.distance.0) nan_last)
    (then_total (on_total (λ (x : GraphEdge). x.a) nat_cmp_total) (on_total (λ (x : GraphEdge). x.b) nat_cmp_total))

edges_ranked : IsStrictWeakOrder (λ x y. is_lt (edge_cmp x y))
edges_ranked = ranks_by edges-total (λ (x : GraphEdge). x)

-- ---- two pairs, of which the second is not before the first

-- by their numbers
numbers_before : (p q : Pair) → is_lt (ordering_then (nat_cmp q.a p.a) (nat_cmp q.b p.b)) ≡ false → p ≢ q → BeforePair p q
numbers_before p q e apart = go (ltb q.a p.a) (eqb q.a p.a) (ltb q.b p.b) refl refl refl e
  where
    go : (x y z : Bool) → ltb q.a p.a ≡ x → eqb q.a p.a ≡ y → ltb q.b p.b ≡ z
        → is_lt (ordering_then (cond x Less (cond y Equal Greater)) (cond z Less (cond (eqb q.b p.b) Equal Greater))) ≡ false
        → BeforePair p q
    go true y z f g h e = absurd (false≢true (sym e))
    go false true true f g h e = absurd (false≢true (sym e))
    go false true false f g h e =
        let same : p.a ≡ q.a = sym (eqb-true q.a p.a g) in
        let other : p.b ≢ q.b = λ k. apart (ap₂ (λ (a b : ℕ). record { a = a; b = b }) same k) in
        inr (same, omega (arith, ltb-false q.b p.b h))
    go false false z f g h e = inl (omega (arith, ltb-false q.a p.a f, eqb-false q.a p.a g))

edges_before : (x y : GraphEdge) → valid_distance x.distance.0 ≡ true → valid_distance y.distance.0 ≡ true → is_lt (edge_cmp y x) ≡ false
    → pair_of x ≢ pair_of y → Before (spline_pair x) (spline_pair y)
edges_before x y v w e apart = go (lt y.distance.0 x.distance.0) (lt x.distance.0 y.distance.0) refl refl e
  where
    numbers : is_nan x.distance.0 ≡ false
    numbers = valid_number x.distance.0 v

    numbers' : is_nan y.distance.0 ≡ false
    numbers' = valid_number y.distance.0 w

    go : (s t : Bool) → lt y.distance.0 x.distance.0 ≡ s → lt x.distance.0 y.distance.0 ≡ t → is_lt (edge_cmp y x) ≡ false
        → Before (spline_pair x) (spline_pair y)
    go s true f g e = inl g
    go true false f g e = absurd (false≢true (sym (rw (numbers, numbers', f) at e)))
    go false false f g e = inr (f, numbers_before (pair_of x) (pair_of y) (rw (numbers, numbers', f, g) at e) apart)

-- ---- elements and places

module _ {A : Type 0} where
  to_mem : (l : List A) (x : A) (k : ℕ) → k < length l → get_or l k x ≡ x → Memᴰ x l
  to_mem [] x k h e = absurd (omega arith)
  to_mem (y ∷ l) x zero h e = Memᴰ.head (sym e)
  to_mem (y ∷ l) x (suc k) h e = Memᴰ.tail (to_mem l x k (omega arith) e)

  mem_contains : (l : List A) (x : A) → Memᴰ x l → Contains l x
  mem_contains [] x m = absurd (Memᴰ.not-nil m)
  mem_contains (y ∷ l) x m =
      ⊎_elim (λ e. (0, omega arith, sym e)) (λ r. let c = mem_contains l x r in (suc c.0, omega (arith, c.1), c.2)) (Memᴰ.cases_cons m)

  moved_mem : (l m : List A) → IsPermutation l m → (x : A) → Memᴰ x l → Memᴰ x m
  moved_mem l m p x i = let c = Contains-permutation l m x p (mem_contains l x i) in to_mem m x c.0 c.1 c.2

  at_mem : (l : List A) (k : ℕ) (d : A) → k < length l → Memᴰ (get_or l k d) l
  at_mem l k d h = to_mem l _ k h (get_d_any l k _ d h)

  module _ (R : A → A → Type 0) where
    by_places : (l : List A) → ((i j : ℕ) (d : A) → i < j → j < length l → R (get_or l i d) (get_or l j d)) → Sequence R l
    unfolding Sequence
    by_places [] h = tt
    by_places (p ∷ l) h = (
      λ q m. let c = mem_contains l q m in subst (R p) c.2 (h 0 (suc c.0) q (omega arith) (omega (arith, c.1))),
      by_places l (λ i j d a b. h (suc i) (suc j) d (omega arith) (omega arith)),
    )

    at_places : (l : List A) → Sequence R l → (i j : ℕ) (d : A) → i < j → j < length l → R (get_or l i d) (get_or l j d)
    unfolding Sequence
    at_places [] s i j d a b = absurd (omega arith)
    at_places (p ∷ l) s i zero d a b = absurd (omega arith)
    at_places (p ∷ l) s zero (suc j) d a b = s.0 (get_or l j d) (at_mem l j d (omega arith))
    at_places (p ∷ l) s (suc i) (suc j) d a b = at_places l s.1 i j d (omega arith) (omega arith)

-- ---- no pair stands twice, wherever they are moved to

abbrev Apart : List SplinePair → Type 0
Apart l = (i j : ℕ) (d : SplinePair) → i < length l → j < length l → i ≢ j → (get_or l i d).pair ≢ (get_or l j d).pair

before_apart : (p q : Pair) → BeforePair p q → p ≢ q
before_apart p q (inl h) e = let f = ap (λ (x : Pair). x.a) e in omega arith
before_apart p q (inr h) e = let f = ap (λ (x : Pair). x.b) e in omega (arith, h.1)

sequence-apart : (l : List SplinePair) → Sequence (λ p q. BeforePair p.pair q.pair) l → Apart l
sequence-apart l s i j d hi hj ne =
    elim (dec_lt i j) [
      | yes h ↦ before_apart _ _ (at_places _ l s i j d h hj)
      | no h ↦ λ e. before_apart _ _ (at_places _ l s j i d (omega arith) hi) (sym e)
    ]

-- the place m holds what stood at p before i and j were exchanged
data Came (i j m p : ℕ) : Type 0 where
  first : m ≡ i → p ≡ j → Came i j m p
  second : m ≡ j → p ≡ i → Came i j m p
  other : m ≢ i → m ≢ j → p ≡ m → Came i j m p

came_apart : {i j m p n q : ℕ} → Came i j m p → Came i j n q → m ≢ n → p ≢ q
came_apart (first a b) (first e f) = omega arith
came_apart (first a b) (second e f) = omega arith
came_apart (first a b) (other e g f) = omega arith
came_apart (second a b) (first e f) = omega arith
came_apart (second a b) (second e f) = omega arith
came_apart (second a b) (other e g f) = omega arith
came_apart (other a c b) (first e f) = omega arith
came_apart (other a c b) (second e f) = omega arith
came_apart (other a c b) (other e g f) = omega arith

swap-apart : (l : List SplinePair) (i j : ℕ) → i < length l → j < length l → Apart l → Apart (swap l i j)
swap-apart l i j hi hj a m n d hm hn ne e =
    let x = from m (omega (arith, as_long)) in
    let y = from n (omega (arith, as_long)) in
    a x.0 y.0 d x.1 y.1 (came_apart x.2 y.2 ne) (ap (λ (p : SplinePair). p.pair) (sym x.3) ∙ e ∙ ap (λ (p : SplinePair). p.pair) y.3)
  where
    as_long : length (swap l i j) ≡ length l
    as_long = length_permutation l (swap l i j) (IsPermutation-swap l (swap l i j) i j hi hj refl)

    swapped : Swapped (λ k. get_or l k d) (λ k. get_or (swap l i j) k d) i j
    swapped = swapped_from_swap l (swap l i j) i j d hi hj refl

    from : (k : ℕ) → k < length l → (p : ℕ) × (p < length l) × Came i j k p × (get_or (swap l i j) k d ≡ get_or l p d)
    from k h =
        elim (ℕ_discrete k i) [
          | yes s ↦ (j, hj, first s refl, ap (λ (z : ℕ). get_or (swap l i j) z d) s ∙ swapped.0)
          | no s ↦ elim (ℕ_discrete k j) [
            | yes t ↦ (i, hi, second t refl, ap (λ (z : ℕ). get_or (swap l i j) z d) t ∙ swapped.1)
            | no t ↦ (k, h, other s t refl, swapped.2 k s t)
          ]
        ]

-- ---- the pairs of n splines, sorted

nowhere : GraphEdge
nowhere = record { distance = record { 0 = nan }; a = 0; b = 0 }

module _ (n : ℕ) (distances : List Float) (given : ValidDistances n distances) (old new : List GraphEdge)
    (e : map spline_pair old ≡ with_distances (pairs_from 0 n) distances) (moved : IsPermutation old new) (sorted : IsSorted edge_cmp new) where
  abbrev pairs : List SplinePair
  pairs = with_distances (pairs_from 0 n) distances

  abbrev order : List SplinePair
  order = map spline_pair new

  rearranged : IsPermutation pairs order
  rearranged = subst (λ l. IsPermutation l order) e (IsPermutation-map spline_pair old new moved)

  back : IsPermutation order pairs
  back = IsPermutation-sym pairs order rearranged

  order-apart : Apart order
  order-apart = IsPermutation-keeps pairs Apart
      (sequence-apart pairs (distances_sequence (pairs_from 0 n) distances (from_sequence 0 n))) swap-apart order rearranged

  valid : (k : ℕ) → k < length new → valid_distance (get_or new k nowhere).distance.0 ≡ true
  unfolding Valid
  valid k h =
      let here = get_or_mapped spline_pair new k nowhere (spline_pair nowhere) h in
      let in_order = at_mem order k (spline_pair nowhere) (rw length-map h) in
      rw here at (distances-valid (pairs_from 0 n) distances given.valid _ (moved_mem order pairs back _ in_order))

  places : (i j : ℕ) (d : SplinePair) → i < j → j < length order → Before (get_or order i d) (get_or order j d)
  places i j d h k =
      let inside : j < length new = rw length-map at k in
      let first = get_or_mapped spline_pair new i nowhere d (omega arith) in
      let second = get_or_mapped spline_pair new j nowhere d inside in
      rw (first, second)
      (edges_before (get_or new i nowhere) (get_or new j nowhere) (valid i (omega arith)) (valid j inside)
      (sorted_far _ edges_ranked new sorted i j nowhere (omega arith) inside)
      (rw (first, second) at (order-apart i j d (omega arith) k (omega arith))))

  pub only_sorted : order ≡ pair_order n distances
  only_sorted = order_members n distances given order (by_places Before order places) (moved_mem order pairs back) (moved_mem pairs order rearranged)
