-- One offer of two different splines to a sound table leaves a sound table. One offer to any table: a clash afterwards
-- is one from before, and so is a kept pair, unless the answer is kept and the pair is the offer's own, which does not
-- clash. Only a pair that clashes can be dropped; where it is not, no pair is, and an answer that is not kept leaves
-- the table as it was.
use mathlib.Core.Path.{◌≡◌, refl, sym, ap, ◌∙◌, subst}
use mathlib.Core.Logic.{◌⊎◌, inl, inr, ⊎_elim, ⊎_map, ◌≢◌}
use mathlib.Core.Bool.{true, false, true≢false}
use mathlib.Core.List.{List, []}
use Prim.Native.Nat.{ℕ, ◌*◌, ◌≤◌, ◌<◌}
use native.Mathlib.Decide.{ℕ_discrete}
use native.Mathlib.Omega.{arith}
use lib.ListN.{length, get_or}
use lib.Arith.{digits_lt}
use borrow.Author.Tests.{ne_eqb}
use Rattle.coloring.specs.Recolor.{Walk, recolored, stopped}
use Rattle.coloring.specs.SplineTable.{Table, table_of, kept, declined, refused, Offered, outcome, settled, entry, enter_pair, sound, try_add_edge, offer}
use Rattle.coloring.specs.Sequence.{Pair, KeptPair, Clash, is_kept, Names}
use Rattle.coloring.proofs.recolor.RowLaws.{Matrix}
use Rattle.coloring.proofs.recolor.FreeColorLaws.{possible_free}
use Rattle.coloring.proofs.recolor.ProperLaws.{Proper, proper_color, proper_old, Ends, take_free, recolor-ends}
use Rattle.coloring.proofs.spline_table.TableLaws.{splines, sound-color, sound_matrix, matrix_sound, names?}
use Rattle.coloring.proofs.spline_table.TableLaws.{enter_at, enter_other, enter_matrix, enter_again, enter_none}
use Rattle.coloring.proofs.spline_table.OfferLaws.{Unrefused, rule_cases, offer_rule, offer_cases}

-- a sound table of n splines
pub record Sound (n : ℕ) (t : Table) : Type 0 where
  pub splines : length t.coloring ≡ n
  pub size : length t.edge_matrix ≡ length t.coloring * length t.coloring
  pub is_sound : sound t ≡ true

-- the offer's pair, if it is kept before, is kept afterwards
abbrev StaysKept : Table → Pair → Offered → Type 0
StaysKept t p o = KeptPair t p.a p.b → KeptPair o.table p.a p.b

pub record OneOffer (t : Table) (p : Pair) (o : Offered) : Type 0 where
  pub clash_only : (i j : ℕ) → Clash o.table i j → Clash t i j
  pub kept_apart : (i j : ℕ) → (is_kept o.answer ≡ true) × Names p i j → ¬ Clash o.table i j
  pub kept_only : (i j : ℕ) → KeptPair o.table i j → KeptPair t i j ⊎ ((is_kept o.answer ≡ true) × Names p i j)
  -- only a pair that clashes is dropped
  pub stays_kept : ¬ Clash t p.a p.b → StaysKept t p o
  -- where the offer's pair is not dropped
  pub kept_all : StaysKept t p o → (i j : ℕ) → KeptPair t i j ⊎ ((is_kept o.answer ≡ true) × Names p i j) → KeptPair o.table i j
  pub unchanged : StaysKept t p o → is_kept o.answer ≡ false → o.table ≡ t

-- ---- declined and refused offers

-- they change no colour, and drop the offer's pair at most
record NotKept (t : Table) (p : Pair) (o : Offered) : Type 0 where
  answer : is_kept o.answer ≡ false
  coloring : o.table.coloring ≡ t.coloring
  fewer : (i j : ℕ) → KeptPair o.table i j → KeptPair t i j
  stays_kept : ¬ Clash t p.a p.b → StaysKept t p o
  unchanged : StaysKept t p o → o.table ≡ t

not_kept : {t : Table} {p : Pair} {o : Offered} → NotKept t p o → OneOffer t p o
not_kept {t} {p} {o} u =
    record {
      clash_only = λ i j c. record { kept_pair = u.fewer i j c.kept_pair; same_color = rw u.coloring at c.same_color };
      kept_apart = λ i j named c. not_named i j named;
      kept_only = λ i j k. inl (u.fewer i j k);
      stays_kept = u.stays_kept;
      kept_all =
          λ stays i j k. subst (λ s. KeptPair s i j) (sym (u.unchanged stays)) (⊎_elim (λ x. x) (λ x. absurd (not_named i j x)) k);
      unchanged = λ stays e. u.unchanged stays;
    }
  where
    not_named : (i j : ℕ) → (is_kept o.answer ≡ true) × Names p i j → ⊥
    not_named i j x = true≢false (sym x.0 ∙ u.answer)

-- ---- kept pairs by the entries of a sound matrix

record Joined (n : ℕ) (edge_matrix : List ℕ) (i j : ℕ) : Type 0 where
  first : i < n
  second : j < n
  there : entry n edge_matrix i j ≢ 0

kept-joined : (n : ℕ) (t : Table) → length t.coloring ≡ n → (i j : ℕ) → KeptPair t i j → Joined n t.edge_matrix i j
kept-joined n t e i j k =
    record { first = rw e at k.first; second = rw e at k.second; there = rw e at k.there.1 }

joined-kept : (n : ℕ) (t : Table) → length t.coloring ≡ n → Matrix n t.edge_matrix → (i j : ℕ) → Joined n t.edge_matrix i j → KeptPair t i j
joined-kept n t e m i j k =
    record {
      first = rw e k.first;
      second = rw e k.second;
      different = λ q. k.there (rw q (m.loopless j k.second));
      there = (rw (e, m.size) (digits_lt k.first k.second), rw e k.there);
      back = (rw (e, m.size) (digits_lt k.second k.first), rw e (λ z. k.there (m.symmetric i j k.first k.second ∙ z)));
    }

-- ---- kept and declined offers

-- of an offer that passes the checks
record AfterOffer (t : Table) (p : Pair) (o : Offered) : Type 0 where
  after : Sound (splines t) o.table
  one : OneOffer t p o

module _ (t : Table) (p : Pair) (v : Unrefused t p.a p.b) where
  abbrev n : ℕ
  n = splines t

  -- the entries with e for the pair
  abbrev with-entry : ℕ → List ℕ
  with-entry e = enter_pair n t.edge_matrix p.a p.b e

  abbrev with_pair : List ℕ
  with_pair = with-entry 1

  -- a clash from before, of another pair than the offer's
  abbrev Other : ℕ → ℕ → Type 0
  Other i j = Clash t i j × ¬ Names p i j

  -- colours in which only such pairs clash
  abbrev ProperBut : ℕ → List ℕ → Type 0
  ProperBut w coloring = Proper Other n with_pair w (record { coloring = coloring; queue = [] })

  was : Matrix n t.edge_matrix
  was = sound_matrix t v.is_sound v.size

  matrix_with : (e : ℕ) → e ≤ 1 → Matrix n (with-entry e)
  matrix_with e small = enter_matrix n t.edge_matrix p v.first v.second v.different e small was

  becomes : Matrix n with_pair
  becomes = matrix_with 1 (omega arith)

  named : (e i j : ℕ) → Names p i j → entry n (with-entry e) i j ≡ e
  named e i j names = enter_at n t.edge_matrix p v.first v.second v.different e i j v.size names

  unnamed : (e i j : ℕ) → i < n → j < n → ¬ Names p i j → entry n (with-entry e) i j ≡ entry n t.edge_matrix i j
  unnamed e = enter_other n t.edge_matrix p v.first v.second v.different e

  kept_or_named : (e i j : ℕ) → Joined n (with-entry e) i j → KeptPair t i j ⊎ Names p i j
  kept_or_named e i j k = go (names? p i j)
    where
      go : Dec (Names p i j) → KeptPair t i j ⊎ Names p i j
      go (yes names) = inr names
      go (no other) =
          inl (joined-kept _ t refl was i j
          (record { first = k.first; second = k.second; there = rw (unnamed e i j k.first k.second other) at k.there }))

  if_kept : (step : ℕ) (coloring : List ℕ) → ProperBut n coloring → AfterOffer t p (outcome (kept step) coloring with_pair)
  if_kept step coloring c =
      record {
        after =
            record {
              splines = c.size;
              size = rw c.size becomes.size;
              is_sound = matrix_sound after (rw c.size becomes) (λ i h. proper_color c i (rw c.size at h));
            };
        one =
            record {
              clash_only = λ i j k. (other i j k).0;
              kept_apart = λ i j named k. (other i j k).1 named.1;
              kept_only = λ i j k. ⊎_map (λ x. x) (λ names. (refl, names)) (kept_or_named 1 i j (joins i j k));
              stays_kept = λ apart k. all p.a p.b (inl k);
              kept_all = λ stays. all;
              unchanged = λ stays e. absurd (true≢false e);
            };
      }
    where
      after : Table
      after = table_of coloring with_pair

      joins : (i j : ℕ) → KeptPair after i j → Joined n with_pair i j
      joins = kept-joined _ after c.size

      other : (i j : ℕ) → Clash after i j → Other i j
      other i j k = let s = joins i j k.kept_pair in proper_old c i j s.first s.second s.there k.same_color

      all : (i j : ℕ) → KeptPair t i j ⊎ ((true ≡ true) × Names p i j) → KeptPair after i j
      all i j k = joined-kept _ after c.size becomes i j (go (names? p i j) k)
        where
          go : Dec (Names p i j) → KeptPair t i j ⊎ ((true ≡ true) × Names p i j) → Joined n with_pair i j
          go (yes names) k =
              record {
                first = ⊎_elim (λ e. rw (← e.0) v.first) (λ e. rw (← e.1) v.second) names;
                second = ⊎_elim (λ e. rw (← e.1) v.second) (λ e. rw (← e.0) v.first) names;
                there = rw (named 1 i j names) (omega arith);
              }
          go (no other) (inr k) = absurd (other k.1)
          go (no other) (inl k) =
              record {
                first = k.first;
                second = k.second;
                there = rw (unnamed 1 i j k.first k.second other) (kept-joined _ t refl i j k).there;
              }

  -- the colours as they were, where the pair's two differ, or one of the two is left out
  old-colors : (w : ℕ) → ((i j : ℕ) → Names p i j → i ≢ w → j ≢ w → get_or t.coloring i 0 ≢ get_or t.coloring j 0) → ProperBut w t.coloring
  old-colors w pair =
      record {
        size = refl;
        colored = λ i h iw. inl (sound-color t v.is_sound i h);
        proper =
            λ i j hi hj iw jw e q. let differ : ¬ Names p i j = λ names. pair i j names iw jw q in
            inl (⊎_elim (λ k. (record { kept_pair = k; same_color = q }, differ)) (λ names. absurd (differ names))
            (kept_or_named 1 i j (record { first = hi; second = hj; there = e })));
      }

  if_declined : (step : ℕ) → get_or t.coloring p.a 0 ≡ get_or t.coloring p.b 0
      → AfterOffer t p (outcome (declined step) t.coloring (enter_pair n with_pair p.a p.b 0))
  if_declined step e =
      rw (enter_again n t.edge_matrix p v.first v.second v.different 1 0)
      (record {
        after =
            let dropped = matrix_with 0 (omega arith) in
            record { splines = refl; size = dropped.size; is_sound = matrix_sound after dropped (sound-color t v.is_sound) };
        one =
            not_kept (record {
              answer = refl;
              coloring = refl;
              fewer = λ i j k. ⊎_elim (λ x. x) (λ names. absurd (gone i j names k)) (kept_or_named 0 i j (kept-joined _ after refl i j k));
              stays_kept = λ apart k. absurd (apart (record { kept_pair = k; same_color = e }));
              unchanged = λ stays. ap (table_of t.coloring) (same (λ k. gone p.a p.b (inl (refl, refl)) (stays k)));
            });
      })
    where
      after : Table
      after = table_of t.coloring (with-entry 0)

      gone : (i j : ℕ) → Names p i j → ¬ KeptPair after i j
      gone i j names k = (kept-joined _ after refl i j k).there (named 0 i j names)

      no_entry : ¬ KeptPair t p.a p.b → entry n t.edge_matrix p.a p.b ≡ 0
      no_entry unkept = go (ℕ_discrete _ 0)
        where
          go : Dec (entry n t.edge_matrix p.a p.b ≡ 0) → entry n t.edge_matrix p.a p.b ≡ 0
          go (yes z) = z
          go (no z) = absurd (unkept (joined-kept _ t refl was p.a p.b (record { first = v.first; second = v.second; there = z })))

      same : ¬ KeptPair t p.a p.b → with-entry 0 ≡ t.edge_matrix
      same unkept =
          enter_none n t.edge_matrix p v.first v.second v.different (no_entry unkept)
          (sym (was.symmetric _ _ v.first v.second) ∙ no_entry unkept)

  -- the colours differ and b keeps its own, or b takes a free one, or it takes the first that a has not and a walk
  -- follows
  try_outcome : AfterOffer t p (try_add_edge t p.a p.b)
  try_outcome =
      rule_cases t p.a p.b (AfterOffer t p) (λ d. if_kept 0 t.coloring (old-colors n (λ i j names x z. differ d i j names)))
      (λ e f. if_kept 0 _ (take_free Other n with_pair becomes p.b _ _ (possible_free _ _ (ne_eqb _ 0 f)) but_b))
      (λ e f w q. ends w e (subst (Ends Other n with_pair) q (recolor-ends Other n with_pair becomes t.coloring p.a p.b color but_b)))
    where
      color : get_or t.coloring p.a 0 < 3
      color = sound-color t v.is_sound p.a v.first

      but_b : ProperBut p.b t.coloring
      but_b = old-colors p.b (λ i j names x y. absurd (⊎_elim (λ e. y (sym e.1)) (λ e. x (sym e.1)) names))

      differ : get_or t.coloring p.a 0 ≢ get_or t.coloring p.b 0 → (i j : ℕ) → Names p i j → get_or t.coloring i 0 ≢ get_or t.coloring j 0
      differ e i j (inl (x, y)) q = e (rw (x, y) q)
      differ e i j (inr (x, y)) q = e (rw (x, y) (sym q))

      ends : (w : Walk) → get_or t.coloring p.a 0 ≡ get_or t.coloring p.b 0 → Ends Other n with_pair w
          → AfterOffer t p (settled w t.coloring with_pair p.a p.b)
      ends (recolored after step) e c = if_kept step after c
      ends (stopped step) e c = if_declined step e

-- ---- the offer

-- an offer that passes the checks is `try_add_edge`, and leaves a sound table
pub offer-sound : (t : Table) (a b : ℕ) → Unrefused t a b → (offer t a b ≡ try_add_edge t a b) × Sound (splines t) (try_add_edge t a b).table
offer-sound t a b v = (offer_rule t a b v, (try_outcome t (record { a = a; b = b }) v).after)

pub one-offer : (t : Table) (p : Pair) → OneOffer t p (offer t p.a p.b)
one-offer t p = offer_cases t p.a p.b (OneOffer t p) (λ r. not_kept untouched) (λ v. (try_outcome t p v).one)
  where
    untouched : {r : ℕ} → NotKept t p (record { answer = refused r; table = t })
    untouched = record { answer = refl; coloring = refl; fewer = λ i j k. k; stays_kept = λ apart k. k; unchanged = λ stays. refl }
