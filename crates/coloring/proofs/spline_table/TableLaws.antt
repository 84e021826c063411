-- Laws of a spline table: what `sound` says, place by place, and that it is what the code looks at; the entries before
-- and after a pair is entered.
use mathlib.Core.Path.{◌≡◌, refl, sym, ap, ◌∙◌, subst}
use mathlib.Core.Logic.Dec
use mathlib.Core.Logic.{inl, inr, ⊎_elim, ◌≢◌}
use mathlib.Core.Bool.{Bool, true, ◌&&◌}
use mathlib.Core.List.{List}
use Prim.Native.Nat.{ℕ, zero, suc, ◌+◌, ◌*◌, ◌/◌, ◌%◌, ◌<◌, ◌≤◌}
use native.Mathlib.Nat.{div-add-mod', div-lt_iff_lt-mul, mod-lt}
use native.Mathlib.Decide.{ℕ_discrete, dec_lt}
use native.Mathlib.Numerals.{add-one}
use native.Mathlib.Omega.{arith}
use lib.ListN.{length, get_or, set, length-set}
use lib.Seq.{get_or-set_same, get_or-set_other, set-set, set_comm, set-get_or}
use lib.Arith.{digits_lt, digits_div, digits_mod}
use lib.Dec.{leb, eqb}
use borrow.Author.Tests.{leb-true, le-leb, eqb-true, eq-eqb}
use Rattle.coloring.specs.SplineTable.{Table, table_of, enter_pair, all_below, entry, sound, at_most, mirrored, symmetric}
use Rattle.coloring.specs.Sequence.{Pair, Names}
use Rattle.coloring.specs.Bools.{and_left, and_right, same_truth}
use Rattle.coloring.proofs.recolor.RowLaws.{Matrix}

abbrev pub splines : Table → ℕ
splines t = length t.coloring

-- ---- a test at each number

pub all_none : (test : ℕ → Bool) → all_below 0 test ≡ true
unfolding all_below
all_none test = refl

pub all_more : (i : ℕ) (test : ℕ → Bool) → all_below (i + 1) test ≡ (all_below i test && test i)
unfolding all_below
all_more i test = rw add-one

all-passes : (n : ℕ) (test : ℕ → Bool) → all_below n test ≡ true → (i : ℕ) → i < n → test i ≡ true
unfolding all_below
all-passes zero test e i h = absurd (omega arith)
all-passes (suc n) test e i h = here (ℕ_discrete i n) (λ k. all-passes n test (and_left _ _ e) i k)
  where
    here : Dec (i ≡ n) → (i < n → test i ≡ true) → test i ≡ true
    here (yes q) rest = rw q (and_right (all_below n test) (test n) e)
    here (no q) rest = rest (omega arith)

all_shown : (n : ℕ) (test : ℕ → Bool) → ((i : ℕ) → i < n → test i ≡ true) → all_below n test ≡ true
unfolding all_below
all_shown zero test h = refl
all_shown (suc n) test h = rw (all_shown n test (λ i k. h i (omega arith)), h n (omega arith))

-- ---- what a sound table is

module _ (t : Table) where
  abbrev at : ℕ → ℕ → ℕ
  at i j = entry (splines t) t.edge_matrix i j

  module _ (s : sound t ≡ true) where
    passes : (i : ℕ) → i < splines t
        → (leb (get_or t.coloring i 0) 2 && all_below (splines t) (λ j. leb (at i j) 1 && eqb (at i j) (at j i)) && eqb (at i i) 0) ≡ true
    unfolding sound
    passes = all-passes _ _ s

    pub sound-color : (i : ℕ) → i < splines t → get_or t.coloring i 0 < 3
    sound-color i h = omega (arith, leb-true (get_or t.coloring i 0) 2 (and_left _ _ (and_left _ _ (passes i h))))

    entries : (i j : ℕ) → i < splines t → j < splines t → (leb (at i j) 1 && eqb (at i j) (at j i)) ≡ true
    entries i j h k = all-passes _ _ (and_right (leb (get_or t.coloring i 0) 2) _ (and_left _ _ (passes i h))) j k

    pub sound_matrix : length t.edge_matrix ≡ splines t * splines t → Matrix (splines t) t.edge_matrix
    sound_matrix e =
        record {
          size = e;
          low = λ i j h k. leb-true _ _ (and_left _ _ (entries i j h k));
          symmetric = λ i j h k. eqb-true _ _ (and_right (leb (at i j) 1) _ (entries i j h k));
          loopless = λ i h. eqb-true _ _ (and_right (leb (get_or t.coloring i 0) 2 && _) _ (passes i h));
        }

  pub matrix_sound : Matrix (splines t) t.edge_matrix → ((i : ℕ) → i < splines t → get_or t.coloring i 0 < 3) → sound t ≡ true
  unfolding sound
  matrix_sound m color =
      all_shown _ _ (λ i h.
      rw (le-leb (get_or t.coloring i 0) 2 (omega (arith, color i h)), all_shown _ _ (entries i h), eq-eqb (at i i) 0 (m.loopless i h)))
    where
      entries : (i : ℕ) → i < splines t → (j : ℕ) → j < splines t → (leb (at i j) 1 && eqb (at i j) (at j i)) ≡ true
      entries i h j k = rw (le-leb (at i j) 1 (m.low i j h k), eq-eqb (at i j) (at j i) (m.symmetric i j h k))

-- The code looks at each number once, and at each pair once.
module _ (coloring edge_matrix : List ℕ) (size : length edge_matrix ≡ length coloring * length coloring) where
  abbrev n : ℕ
  n = length coloring

  abbrev table : Table
  table = table_of coloring edge_matrix

  abbrev looked : Bool
  looked = at_most 2 coloring && at_most 1 edge_matrix && symmetric n edge_matrix

  there : looked ≡ true → sound table ≡ true
  there e =
      matrix_sound table (record { size = size; low = low; symmetric = λ i j h k. both i j h k (dec_lt j i) (dec_lt i j); loopless = diagonal })
      (λ i h. omega (arith, leb-true (get_or coloring i 0) 2 (all-passes n _ (and_left (at_most 2 coloring) _ (and_left _ _ e)) i h)))
    where
      rows : (i : ℕ) → i < n → (mirrored n edge_matrix i && eqb (at table i i) 0) ≡ true
      rows = all-passes n _ (and_right (at_most 2 coloring && at_most 1 edge_matrix) _ e)

      low : (i j : ℕ) → i < n → j < n → at table i j ≤ 1
      low i j h k =
          leb-true _ _ (all-passes (length edge_matrix) _ (and_right (at_most 2 coloring) _ (and_left _ _ e)) (i * n + j) (rw size (digits_lt h k)))

      before : (i j : ℕ) → i < n → j < i → at table i j ≡ at table j i
      before i j h k = eqb-true _ _ (all-passes i _ (and_left (mirrored n edge_matrix i) _ (rows i h)) j k)

      both : (i j : ℕ) → i < n → j < n → Dec (j < i) → Dec (i < j) → at table i j ≡ at table j i
      both i j h k (yes p) q = before i j h p
      both i j h k (no p) (yes q) = sym (before j i k q)
      both i j h k (no p) (no q) = let e : i ≡ j = omega arith in rw e

      diagonal : (i : ℕ) → i < n → at table i i ≡ 0
      diagonal i h = eqb-true _ _ (and_right (mirrored n edge_matrix i) _ (rows i h))

  back : sound table ≡ true → looked ≡ true
  back s =
      rw (all_shown n _ color, all_shown (length edge_matrix) _ low)
      (all_shown n _ (λ i h. rw (all_shown i _ (mirror i h), eq-eqb (at table i i) 0 (m.loopless i h))))
    where
      m : Matrix n edge_matrix
      m = sound_matrix table s size

      color : (i : ℕ) → i < n → leb (get_or coloring i 0) 2 ≡ true
      color i h = le-leb (get_or coloring i 0) 2 (omega (arith, sound-color table s i h))

      some : (i k : ℕ) → k < i * i → 0 < i
      some zero k h = absurd (omega arith)
      some (suc i) k h = omega arith

      low : (k : ℕ) → k < length edge_matrix → leb (get_or edge_matrix k 0) 1 ≡ true
      low k h =
          let below : k < n * n = omega arith in
          let rows = some n k below in
          le-leb _ 1 (rw (div-add-mod' k n) at (m.low (k / n) (k % n) ((div-lt_iff_lt-mul rows).1 below) (mod-lt k rows)))

      mirror : (i : ℕ) → i < n → (j : ℕ) → j < i → eqb (at table i j) (at table j i) ≡ true
      mirror i h j k = eq-eqb _ _ (m.symmetric i j h (omega arith))

  pub sound-looked : looked ≡ sound table
  sound-looked = same_truth _ _ there back

-- ---- entering a pair

-- the place of an entry tells its row and its column
place_injective : {n i j k l : ℕ} → j < n → l < n → i * n + j ≡ k * n + l → (i ≡ k) × (j ≡ l)
place_injective {n} {i} {j} {k} {l} hj hl e =
    (sym (digits_div i hj) ∙ ap (λ x. x / n) e ∙ digits_div k hl, sym (digits_mod i hj) ∙ ap (λ x. x % n) e ∙ digits_mod k hl)

pub names? : (p : Pair) (i j : ℕ) → Dec (Names p i j)
names? p i j = go (Dec.and (ℕ_discrete p.a i) (ℕ_discrete p.b j)) (Dec.and (ℕ_discrete p.a j) (ℕ_discrete p.b i))
  where
    go : Dec ((p.a ≡ i) × (p.b ≡ j)) → Dec ((p.a ≡ j) × (p.b ≡ i)) → Dec (Names p i j)
    go (yes x) y = yes (inl x)
    go (no x) (yes y) = yes (inr y)
    go (no x) (no y) = no (⊎_elim x y)

names_swap : {p : Pair} {i j : ℕ} → Names p i j → Names p j i
names_swap (inl s) = inr s
names_swap (inr s) = inl s

module _ (n : ℕ) (edge_matrix : List ℕ) (p : Pair) (first : p.a < n) (second : p.b < n) (different : p.a ≢ p.b) where
  two-places : p.a * n + p.b ≢ p.b * n + p.a
  two-places e = different (place_injective second first e).0

  -- both entries of the pair are as entered
  pub enter_at : (e i j : ℕ) → length edge_matrix ≡ n * n → Names p i j → entry n (enter_pair n edge_matrix p.a p.b e) i j ≡ e
  enter_at e i j size (inl (x, y)) =
      rw (← x, ← y, get_or-set_other _ _ _ _ _ two-places) (get_or-set_same edge_matrix _ e 0 (rw size (digits_lt first second)))
  enter_at e i j size (inr (x, y)) =
      rw (← x, ← y) (get_or-set_same (set edge_matrix _ e) _ e 0 (rw (length-set, size) (digits_lt second first)))

  -- and no other
  pub enter_other : (e i j : ℕ) → i < n → j < n → (Names p i j → ⊥)
      → entry n (enter_pair n edge_matrix p.a p.b e) i j ≡ entry n edge_matrix i j
  enter_other e i j hi hj s =
      get_or-set_other (set edge_matrix _ e) _ _ e 0 (λ q. let r = place_injective first hj (sym q) in s (inr (r.1, r.0)))
      ∙ get_or-set_other edge_matrix _ _ e 0 (λ q. s (inl (place_injective second hj (sym q))))

  pub enter_matrix : (e : ℕ) → e ≤ 1 → Matrix n edge_matrix → Matrix n (enter_pair n edge_matrix p.a p.b e)
  enter_matrix e small m =
      record {
        size = simp length-set m.size;
        low = λ i j hi hj. still i j hi hj (names? p i j);
        symmetric = λ i j hi hj. both_ways i j hi hj (names? p i j);
        loopless = λ i h. enter_other e i i h h (λ s. ⊎_elim one one s) ∙ m.loopless i h;
      }
    where
      one : {i : ℕ} → (p.a ≡ i) × (p.b ≡ i) → ⊥
      one (x, y) = different (x ∙ sym y)

      still : (i j : ℕ) → i < n → j < n → Dec (Names p i j) → entry n (enter_pair n edge_matrix p.a p.b e) i j ≤ 1
      still i j hi hj (yes s) = omega (arith, enter_at e i j m.size s)
      still i j hi hj (no s) = omega (arith, enter_other e i j hi hj s, m.low i j hi hj)

      both_ways : (i j : ℕ) → i < n → j < n → Dec (Names p i j)
          → entry n (enter_pair n edge_matrix p.a p.b e) i j ≡ entry n (enter_pair n edge_matrix p.a p.b e) j i
      both_ways i j hi hj (yes s) = enter_at e i j m.size s ∙ sym (enter_at e j i m.size (names_swap s))
      both_ways i j hi hj (no s) =
          enter_other e i j hi hj s ∙ m.symmetric i j hi hj ∙ sym (enter_other e j i hj hi (λ r. s (names_swap r)))

  -- what is entered last counts
  pub enter_again : (d e : ℕ) → enter_pair n (enter_pair n edge_matrix p.a p.b d) p.a p.b e ≡ enter_pair n edge_matrix p.a p.b e
  enter_again d e = rw (set_comm {A = ℕ} _ _ _ d e (λ q. two-places (sym q)), set-set _ (p.b * n + p.a), set-set)

  -- a pair that is not there, taken away
  pub enter_none : entry n edge_matrix p.a p.b ≡ 0 → entry n edge_matrix p.b p.a ≡ 0 → enter_pair n edge_matrix p.a p.b 0 ≡ edge_matrix
  enter_none x y = rw (put _ x) (put _ y)
    where
      put : (k : ℕ) → get_or edge_matrix k 0 ≡ 0 → set edge_matrix k 0 ≡ edge_matrix
      put k z = subst (λ e. set edge_matrix k e ≡ edge_matrix) z (set-get_or edge_matrix k 0)
