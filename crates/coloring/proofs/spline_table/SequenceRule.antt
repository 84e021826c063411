-- Lists of offers. What `ClashRule` says holds of every table and every list: `clash_rule`. From it follows what
-- `SequenceRule` says (demand 3) of every table without a clash and every list: `sequence_rule`.
use mathlib.Core.Path.{◌≡◌, refl, sym, ap, ◌∙◌, subst}
use mathlib.Core.Logic.{◌⊎◌, inl, inr, ⊎_elim, ⊎_map}
use mathlib.Core.Bool.{true, false, true≢false}
use mathlib.Core.List.{List, [], ◌∷◌, map, Memᴰ}
use Prim.Native.Nat.{ℕ}
use native.Mathlib.Omega.{arith}
use borrow.Author.Tests.{not-true}
use Rattle.coloring.specs.SplineTable.{Table, OfferAnswer, kept, declined, refused, offer}
use Rattle.coloring.specs.Sequence.{Pair, run, KeptPair, Clash, NoClash, is_kept, KeptOffer, strike, MayStrike, all_others}
use Rattle.coloring.specs.Sequence.{AtFault, WhenOffered, NoneDropped, NoneClashes, NoneKept, Strikable, ClashRule, SequenceRule}
use Rattle.coloring.proofs.spline_table.OfferLaws.{Unrefused, offer_cases}
use Rattle.coloring.proofs.spline_table.ClashLaws.{one-offer}

-- ---- every list

-- a clash after the list is one at first
pub clash_only_lem : (t : Table) (offers : List Pair) (i j : ℕ) → Clash (run t offers).table i j → Clash t i j
unfolding run
clash_only_lem t [] i j c = c
clash_only_lem t (p ∷ offers) i j c = (one-offer t p).clash_only i j (clash_only_lem (offer t p.a p.b).table offers i j c)

-- a pair that some kept offer names does not clash
kept_apart_lem : (t : Table) (offers : List Pair) (i j : ℕ) → KeptOffer offers (run t offers).answers i j → ¬ Clash (run t offers).table i j
unfolding run KeptOffer
kept_apart_lem t [] i j k c = k
kept_apart_lem t (p ∷ offers) i j (inl named) c =
    (one-offer t p).kept_apart i j named (clash_only_lem (offer t p.a p.b).table offers i j c)
kept_apart_lem t (p ∷ offers) i j (inr later) c = kept_apart_lem (offer t p.a p.b).table offers i j later c

-- the pairs kept at the end: kept at first, by the first offer, or by a later one
regroup_right : {A B C : Type 0} → (A ⊎ B) ⊎ C → A ⊎ (B ⊎ C)
regroup_right (inl x) = ⊎_elim inl (λ b. inr (inl b)) x
regroup_right (inr c) = inr (inr c)

regroup_left : {A B C : Type 0} → A ⊎ (B ⊎ C) → (A ⊎ B) ⊎ C
regroup_left (inl a) = inl (inl a)
regroup_left (inr x) = ⊎_elim (λ b. inl (inr b)) inr x

kept_only_lem : (t : Table) (offers : List Pair) (i j : ℕ) → KeptPair (run t offers).table i j
    → KeptPair t i j ⊎ KeptOffer offers (run t offers).answers i j
unfolding run KeptOffer
kept_only_lem t [] i j k = inl k
kept_only_lem t (p ∷ offers) i j k =
    regroup_right (⊎_map ((one-offer t p).kept_only i j) (λ later. later) (kept_only_lem (offer t p.a p.b).table offers i j k))

-- ---- lists in which no offer drops its pair

kept-all : (t : Table) (offers : List Pair) → NoneDropped t offers → (i j : ℕ) → KeptPair t i j ⊎ KeptOffer offers (run t offers).answers i j
    → KeptPair (run t offers).table i j
unfolding run KeptOffer WhenOffered
kept-all t [] none i j k = ⊎_elim (λ x. x) (λ x. absurd x) k
kept-all t (p ∷ offers) none i j k =
    kept-all (offer t p.a p.b).table offers none.1 i j (⊎_map ((one-offer t p).kept_all none.0 i j) (λ later. later) (regroup_left k))

-- a struck offer left the table as it was
struck_same : (t : Table) (offers : List Pair) → NoneDropped t offers → Strikable t offers
unfolding run strike MayStrike WhenOffered
struck_same t [] none [] may = refl
struck_same t [] none (m ∷ marks) may = refl
struck_same t (p ∷ offers) none [] may = refl
struck_same t (p ∷ offers) none (true ∷ marks) may =
    ap (λ s. run s (strike marks offers)) (sym ((one-offer t p).unchanged none.0 (may.0 refl)))
    ∙ struck_same (offer t p.a p.b).table offers none.1 marks may.1
struck_same t (p ∷ offers) none (false ∷ marks) may =
    ap (λ r. record { answers = (offer t p.a p.b).answer ∷ r.answers; table = r.table })
    (struck_same (offer t p.a p.b).table offers none.1 marks may.1)

-- ---- which lists these are

when_offered : {P Q : Table → Pair → Type 0} → ((s : Table) (p : Pair) → P s p → Q s p)
    → (t : Table) (offers : List Pair) → WhenOffered P t offers → WhenOffered Q t offers
unfolding WhenOffered
when_offered f t [] each = tt
when_offered f t (p ∷ offers) each = (f t p each.0, when_offered f (offer t p.a p.b).table offers each.1)

none_kept : (t : Table) (offers : List Pair) → NoneKept t offers → NoneDropped t offers
none_kept = when_offered (λ s p unkept k. absurd (unkept k))

none_clashes : (t : Table) (offers : List Pair) → NoneClashes t offers → NoneDropped t offers
none_clashes = when_offered (λ s p apart. (one-offer s p).stays_kept apart)

-- no offer to a table at fault passes the checks, and each leaves it as it is
fault_refuses : (t : Table) (a b : ℕ) → AtFault t → ¬ Unrefused t a b
fault_refuses t a b (inl many) v = omega (arith, v.few)
fault_refuses t a b (inr (inl lengths)) v = lengths v.size
fault_refuses t a b (inr (inr unsound)) v = true≢false (sym v.is_sound ∙ unsound)

at-fault : (t : Table) (offers : List Pair) → AtFault t → NoneDropped t offers
unfolding WhenOffered
at-fault t [] fault = tt
at-fault t (p ∷ offers) fault =
    let same = offer_cases t p.a p.b (λ o. o.table ≡ t) (λ number. refl) (λ v. absurd (fault_refuses t p.a p.b fault v)) in
    (λ k. subst (λ s. KeptPair s p.a p.b) (sym same) k, subst (λ s. NoneDropped s offers) (sym same) (at-fault t offers fault))

-- no offered pair clashes at first: then none does when it is offered
pub no_clash_at_first : (t : Table) (offers : List Pair) → ((p : Pair) → Memᴰ p offers → ¬ Clash t p.a p.b) → NoneClashes t offers
unfolding WhenOffered
no_clash_at_first t [] apart = tt
no_clash_at_first t (p ∷ offers) apart = (
  apart p (Memᴰ.head refl),
  no_clash_at_first (offer t p.a p.b).table offers
      (λ q m c. apart q (Memᴰ.tail m) ((one-offer t p).clash_only q.a q.b c)),
)

-- ---- with all declined and refused offers struck

-- the answers that are left are kept
others_struck : (answers : List OfferAnswer) → MayStrike (all_others answers) answers
unfolding MayStrike all_others
others_struck [] = tt
others_struck (o ∷ answers) = (λ e. not-true (is_kept o) e, others_struck answers)

abbrev OnlyKept : List Pair → List OfferAnswer → Type 0
OnlyKept offers answers = map is_kept (strike (all_others answers) answers) ≡ map (λ p. true) (strike (all_others answers) offers)

only_kept_one : (p : Pair) (o : OfferAnswer) (offers : List Pair) (answers : List OfferAnswer) → OnlyKept offers answers → OnlyKept (p ∷ offers) (o ∷ answers)
unfolding strike all_others
only_kept_one p (kept n) offers answers h = ap (λ l. true ∷ l) h
only_kept_one p (declined n) offers answers h = h
only_kept_one p (refused n) offers answers h = h

only_kept : (t : Table) (offers : List Pair) → OnlyKept offers (run t offers).answers
unfolding run strike all_others
only_kept t [] = refl
only_kept t (p ∷ offers) =
    let o = offer t p.a p.b in
    only_kept_one p o.answer offers (run o.table offers).answers (only_kept o.table offers)

-- ---- the two rules

pub clash_rule : (t : Table) (offers : List Pair) → ClashRule t offers
clash_rule t offers =
    record {
      clash_only = clash_only_lem t offers;
      kept_apart = kept_apart_lem t offers;
      kept_only = kept_only_lem t offers;
      kept_all = kept-all t offers;
      struck_no_drop = struck_same t offers;
      struck_at_fault = λ fault. struck_same t offers (at-fault t offers fault);
      struck_no_clash = λ none. struck_same t offers (none_clashes t offers none);
      struck_not_kept = λ none. struck_same t offers (none_kept t offers none);
    }

pub sequence_rule : (t : Table) (offers : List Pair) → NoClash t → SequenceRule t offers
sequence_rule t offers clear =
    let rule = clash_rule t offers in
    let apart : (i j : ℕ) → ¬ Clash t i j = λ i j c. clear i j c.kept_pair c.same_color in
    let none = none_clashes t offers (no_clash_at_first t offers (λ p m. apart p.a p.b)) in
    record {
      no_clash = λ i j k same. apart i j (rule.clash_only i j (record { kept_pair = k; same_color = same }));
      kept_only = rule.kept_only;
      kept_all = rule.kept_all none;
      struck = rule.struck_no_drop none;
      all_kept = ap (λ r. map is_kept r.answers) (rule.struck_no_drop none _ (others_struck (run t offers).answers)) ∙ only_kept t offers;
    }
