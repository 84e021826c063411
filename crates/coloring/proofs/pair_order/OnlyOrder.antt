-- The order of the pairs is that of SCOPE, leaf 7, and the only one: of all rearrangements of the pairs, `pair_order`
-- alone has the nearer pair before the farther, and of two that are as near the first by (i, j). The theorems are
-- `order_fits` and `order_only`.
use mathlib.Core.Path.{◌≡◌, refl, sym, ap, ap₂, ◌∙◌, subst}
use mathlib.Core.Logic.{◌⊎◌, inl, inr, ⊎_elim}
use mathlib.Core.Bool.{true, false, true≢false}
use mathlib.Core.List.Memᴰ
use mathlib.Core.List.{List, [], ◌∷◌, ◌++◌, Memᴰ}
use mathlib.Core.List.Permᴰ
use mathlib.Core.List.{Permᴰ}
use Prim.Native.Nat.{ℕ, zero, suc, ◌<◌, ◌≤◌}
use native.Mathlib.Omega.{arith}
use lib.Ieee.{Float, lt}
use Rattle.coloring.specs.Sequence.{Pair}
use Rattle.coloring.specs.PairOrder.{valid_distance, distances_valid, ValidDistances, pairs_with, pairs_from}
use Rattle.coloring.specs.PairOrder.{SplinePair, with_distances, insert_by, sort_by, pair_order}
use Rattle.coloring.specs.Bools.{and_left, and_right, split}
use Rattle.coloring.proofs.pair_order.DistanceLaws.{lt_asym, not_lt_trans}
use Rattle.coloring.proofs.pair_order.InsertLaws.{insert_here, insert_later}

-- ---- what the order is to be

-- by (i, j)
abbrev pub BeforePair : Pair → Pair → Type 0
BeforePair p q = (p.a < q.a) ⊎ ((p.a ≡ q.a) × (p.b < q.b))

-- nearer; or no farther, and before it by (i, j)
abbrev pub Before : SplinePair → SplinePair → Type 0
Before p q = (lt p.distance q.distance ≡ true) ⊎ ((lt q.distance p.distance ≡ false) × BeforePair p.pair q.pair)

-- each before all that follow it
unfoldable pub Sequence : {A : Type 0} → (A → A → Type 0) → List A → Type 0
Sequence R [] = Unit {0}
Sequence R (p ∷ l) = ((q : _) → Memᴰ q l → R p q) × Sequence R l

-- ---- rearrangements

perm_mem : {A : Type 0} {x : A} {l m : List A} → Permᴰ l m → Memᴰ x l → Memᴰ x m
perm_mem Permᴰ.nil i = i
perm_mem (Permᴰ.cons e d) i = ⊎_elim (λ h. Memᴰ.head (h ∙ e)) (λ t. Memᴰ.tail (perm_mem d t)) (Memᴰ.cases_cons i)
perm_mem (Permᴰ.swap e f) i =
    ⊎_elim (λ h. Memᴰ.tail (Memᴰ.head (h ∙ e)))
    (λ t. ⊎_elim (λ h. Memᴰ.head (h ∙ f)) (λ r. Memᴰ.tail (Memᴰ.tail r)) (Memᴰ.cases_cons t)) (Memᴰ.cases_cons i)
perm_mem (Permᴰ.trans c d) i = perm_mem d (perm_mem c i)

module _ (key : SplinePair → Float) where
  insert_perm : (x : SplinePair) (l : List SplinePair) → Permᴰ (insert_by key x l) (x ∷ l)
  unfolding insert_by
  insert_perm x [] = Permᴰ.refl (x ∷ [])
  insert_perm x (y ∷ l) =
      let rest = insert_perm x l in
      split (lt (key y) (key x))
      (λ e. rw (insert_later key x y l e) (Permᴰ.trans (Permᴰ.cons refl rest) (Permᴰ.swap refl refl)))
      (λ e. rw (insert_here key x y l e) (Permᴰ.refl (x ∷ y ∷ l)))

  sort_perm : (l : List SplinePair) → Permᴰ (sort_by key l) l
  unfolding sort_by
  sort_perm [] = Permᴰ.nil
  sort_perm (x ∷ l) = Permᴰ.trans (insert_perm x (sort_by key l)) (Permᴰ.cons refl (sort_perm l))

-- ---- two sequences of the same pairs are one

unfoldable pub Valid : List SplinePair → Type 0
Valid l = (q : SplinePair) → Memᴰ q l → valid_distance q.distance ≡ true

pair_asym : (p q : Pair) → BeforePair p q → BeforePair q p → ⊥
pair_asym p q (inl a) (inl b) = omega arith
pair_asym p q (inl a) (inr b) = omega arith
pair_asym p q (inr a) (inl b) = omega arith
pair_asym p q (inr a) (inr b) = omega arith

before_asym : (p q : SplinePair) → valid_distance p.distance ≡ true → valid_distance q.distance ≡ true → Before p q → Before q p → ⊥
before_asym p q v w (inl a) (inl b) = true≢false (sym b ∙ lt_asym p.distance q.distance v w a)
before_asym p q v w (inl a) (inr b) = true≢false (sym a ∙ b.0)
before_asym p q v w (inr a) (inl b) = true≢false (sym b ∙ a.0)
before_asym p q v w (inr a) (inr b) = pair_asym p.pair q.pair a.1 b.1

one_sequence : (l m : List SplinePair) → Valid m → Sequence Before l → Sequence Before m
    → ((q : SplinePair) → Memᴰ q l → Memᴰ q m) → ((q : SplinePair) → Memᴰ q m → Memᴰ q l) → l ≡ m
unfolding Sequence Valid
one_sequence [] [] v s t to from = refl
one_sequence [] (y ∷ m) v s t to from = absurd (Memᴰ.not-nil (from y (Memᴰ.head refl)))
one_sequence (x ∷ l) [] v s t to from = absurd (Memᴰ.not-nil (to x (Memᴰ.head refl)))
one_sequence (x ∷ l) (y ∷ m) v s t to from =
    ap₂ (λ z r. z ∷ r) same
    (one_sequence l m (λ q i. v q (Memᴰ.tail i)) s.1 t.1
    (λ q i. ⊎_elim (λ e. absurd (not_self q i (e ∙ sym same))) (λ r. r) (Memᴰ.cases_cons (to q (Memᴰ.tail i))))
    (λ q i. ⊎_elim (λ e. absurd (not_self' q i (e ∙ same))) (λ r. r) (Memᴰ.cases_cons (from q (Memᴰ.tail i)))))
  where
    x_in : Memᴰ x (y ∷ m)
    x_in = to x (Memᴰ.head refl)

    same : x ≡ y
    same =
        ⊎_elim (λ e. e)
        (λ i.
        ⊎_elim sym (λ j. absurd (before_asym x y (v x x_in) (v y (Memᴰ.head refl)) (s.0 y j) (t.0 x i)))
        (Memᴰ.cases_cons (from y (Memᴰ.head refl))))
        (Memᴰ.cases_cons x_in)

    not_self : (q : SplinePair) → Memᴰ q l → q ≡ x → ⊥
    not_self q i e = let b = subst (Before x) e (s.0 q i) in before_asym x x (v x x_in) (v x x_in) b b

    not_self' : (q : SplinePair) → Memᴰ q m → q ≡ y → ⊥
    not_self' q i e = let b = subst (Before y) e (t.0 q i) in before_asym y y (v y (Memᴰ.head refl)) (v y (Memᴰ.head refl)) b b

-- ---- the sorted pairs are such a sequence

insert_sequence : (x : SplinePair) (l : List SplinePair) → valid_distance x.distance ≡ true → Valid l → Sequence Before l
    → ((q : SplinePair) → Memᴰ q l → BeforePair x.pair q.pair) → Sequence Before (insert_by (λ p. p.distance) x l)
unfolding Sequence Valid insert_by
insert_sequence x [] w v s first = (λ q i. absurd (Memᴰ.not-nil i), tt)
insert_sequence x (y ∷ l) w v s first =
    let rest = insert_sequence x l w (λ q i. v q (Memᴰ.tail i)) s.1 (λ q i. first q (Memᴰ.tail i)) in
    split (lt y.distance x.distance) (later_first rest) here-first
  where
    -- no farther than any later one
    later : lt y.distance x.distance ≡ false → (q : SplinePair) → Memᴰ q l → lt q.distance x.distance ≡ false
    later e q i =
        let wy = v y (Memᴰ.head refl) in
        let wq = v q (Memᴰ.tail i) in
        not_lt_trans x.distance y.distance q.distance w wy wq e (⊎_elim (λ a. lt_asym y.distance q.distance wy wq a) (λ b. b.0) (s.0 q i))

    -- y goes before x
    later_first : Sequence Before (insert_by (λ p. p.distance) x l) → lt y.distance x.distance ≡ true
        → Sequence Before (insert_by (λ p. p.distance) x (y ∷ l))
    later_first rest e =
        let before : (q : SplinePair) → Memᴰ q (x ∷ l) → Before y q
        = λ q i. ⊎_elim (λ h. inl (rw h e)) (λ r. s.0 q r) (Memᴰ.cases_cons i) in
        rw (insert_later (λ p. p.distance) x y l e) (λ q i. before q (perm_mem (insert_perm (λ p. p.distance) x l) i), rest)

    -- x goes before y
    here-first : lt y.distance x.distance ≡ false → Sequence Before (insert_by (λ p. p.distance) x (y ∷ l))
    here-first e =
        let not_below : (q : SplinePair) → Memᴰ q (y ∷ l) → lt q.distance x.distance ≡ false
        = λ q i. ⊎_elim (λ h. rw h e) (later e q) (Memᴰ.cases_cons i) in
        rw (insert_here (λ p. p.distance) x y l e) (λ q i. inr (not_below q i, first q i), s)

sort_sequence : (l : List SplinePair) → Valid l → Sequence (λ p q. BeforePair p.pair q.pair) l → Sequence Before (sort_by (λ p. p.distance) l)
unfolding Sequence Valid sort_by
sort_sequence [] v s = tt
sort_sequence (x ∷ l) v s =
    let in-l : (q : SplinePair) → Memᴰ q (sort_by (λ p. p.distance) l) → Memᴰ q l = λ q i. perm_mem (sort_perm (λ p. p.distance) l) i in
    insert_sequence x (sort_by (λ p. p.distance) l) (v x (Memᴰ.head refl)) (λ q i. v q (Memᴰ.tail (in-l q i)))
    (sort_sequence l (λ q i. v q (Memᴰ.tail i)) s.1) (λ q i. s.0 q (in-l q i))

-- ---- the pairs stand by (i, j)

with_members : (i j k : ℕ) (q : Pair) → Memᴰ q (pairs_with i j k) → (q.a ≡ i) × (j ≤ q.b)
unfolding pairs_with
with_members i j zero q m = absurd (Memᴰ.not-nil m)
with_members i j (suc k) q m =
    ⊎_elim (λ e. let f : q.b ≡ j = ap (λ (p : Pair). p.b) e in (ap (λ (p : Pair). p.a) e, omega arith))
    (λ r. let h = with_members i (suc j) k q r in (h.0, omega arith)) (Memᴰ.cases_cons m)

from_members : (i k : ℕ) (q : Pair) → Memᴰ q (pairs_from i k) → i ≤ q.a
unfolding pairs_from
from_members i zero q m = absurd (Memᴰ.not-nil m)
from_members i (suc k) q m =
    ⊎_elim (λ l. let h = with_members i (suc i) k q l in omega arith) (λ r. let h = from_members (suc i) k q r in omega arith)
    (Memᴰ.append_cases (pairs_with i (suc i) k) m)

with_sequence : (i j k : ℕ) → Sequence BeforePair (pairs_with i j k)
unfolding Sequence pairs_with
with_sequence i j zero = tt
with_sequence i j (suc k) = (λ q m. let h = with_members i (suc j) k q m in inr (sym h.0, h.1), with_sequence i (suc j) k)

append_sequence : (xs ys : List Pair) → Sequence BeforePair xs → Sequence BeforePair ys → ((p q : Pair) → Memᴰ p xs → Memᴰ q ys → BeforePair p q)
    → Sequence BeforePair (xs ++ ys)
unfolding Sequence
append_sequence [] ys s t h = t
append_sequence (x ∷ xs) ys s t h = (
  λ q m. ⊎_elim (λ l. s.0 q l) (λ r. h x q (Memᴰ.head refl) r) (Memᴰ.append_cases xs m),
  append_sequence xs ys s.1 t (λ p q l r. h p q (Memᴰ.tail l) r),
)

pub from_sequence : (i k : ℕ) → Sequence BeforePair (pairs_from i k)
unfolding Sequence pairs_from
from_sequence i zero = tt
from_sequence i (suc k) =
    append_sequence (pairs_with i (suc i) k) (pairs_from (suc i) k) (with_sequence i (suc i) k) (from_sequence (suc i) k)
    (λ p q l r. let h = with_members i (suc i) k p l in let g = from_members (suc i) k q r in inl (omega arith))

distances-pair : (pairs : List Pair) (distances : List Float) (q : SplinePair) → Memᴰ q (with_distances pairs distances) → Memᴰ q.pair pairs
unfolding with_distances
distances-pair [] distances q m = absurd (Memᴰ.not-nil m)
distances-pair (p ∷ pairs) [] q m = absurd (Memᴰ.not-nil m)
distances-pair (p ∷ pairs) (d ∷ distances) q m =
    ⊎_elim (λ e. Memᴰ.head (ap (λ (x : SplinePair). x.pair) e)) (λ r. Memᴰ.tail (distances-pair pairs distances q r)) (Memᴰ.cases_cons m)

pub distances-valid : (pairs : List Pair) (distances : List Float) → distances_valid distances ≡ true → Valid (with_distances pairs distances)
unfolding Valid with_distances
distances-valid [] distances h q m = absurd (Memᴰ.not-nil m)
distances-valid (p ∷ pairs) [] h q m = absurd (Memᴰ.not-nil m)
distances-valid (p ∷ pairs) (d ∷ distances) h q m =
    ⊎_elim (λ e. rw e (and_left (valid_distance d) (distances_valid distances) h))
    (λ r. distances-valid pairs distances (and_right (valid_distance d) (distances_valid distances) h) q r) (Memᴰ.cases_cons m)

pub distances_sequence : (pairs : List Pair) (distances : List Float) → Sequence BeforePair pairs
    → Sequence (λ p q. BeforePair p.pair q.pair) (with_distances pairs distances)
unfolding Sequence with_distances
distances_sequence [] distances s = tt
distances_sequence (p ∷ pairs) [] s = tt
distances_sequence (p ∷ pairs) (d ∷ distances) s = (λ q m. s.0 q.pair (distances-pair pairs distances q m), distances_sequence pairs distances s.1)

-- ---- the theorems

module _ (n : ℕ) (distances : List Float) (given : ValidDistances n distances) where
  -- the order is a rearrangement of the pairs, each before all that follow it
  pub order_fits : Permᴰ (pair_order n distances) (with_distances (pairs_from 0 n) distances) × Sequence Before (pair_order n distances)
  unfolding pair_order
  order_fits =
      let pairs = with_distances (pairs_from 0 n) distances in
      let by-pair = distances_sequence (pairs_from 0 n) distances (from_sequence 0 n) in
      (sort_perm (λ p. p.distance) pairs, sort_sequence pairs (distances-valid (pairs_from 0 n) distances given.valid) by-pair)

  -- and no other list of them is
  pub order_members : (l : List SplinePair) → Sequence Before l → ((q : SplinePair) → Memᴰ q l → Memᴰ q (with_distances (pairs_from 0 n) distances))
      → ((q : SplinePair) → Memᴰ q (with_distances (pairs_from 0 n) distances) → Memᴰ q l) → l ≡ pair_order n distances
  unfolding Valid
  order_members l s to from =
      let order = order_fits in
      one_sequence l (pair_order n distances) (λ q i. distances-valid (pairs_from 0 n) distances given.valid q (perm_mem order.0 i)) s order.1
      (λ q i. perm_mem (Permᴰ.symm order.0) (to q i)) (λ q i. from q (perm_mem order.0 i))

  pub order_only : (l : List SplinePair) → Permᴰ l (with_distances (pairs_from 0 n) distances) → Sequence Before l → l ≡ pair_order n distances
  order_only l perm s = order_members l s (λ q i. perm_mem perm i) (λ q i. perm_mem (Permᴰ.symm perm) i)
