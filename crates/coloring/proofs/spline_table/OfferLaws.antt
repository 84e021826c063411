-- One offer, to any table and of any two numbers: the rule by its three cases, the checks in their order, what an offer
-- that passes them leaves, and the laws of SCOPE, Offers: the counter that the answer carries, what a declined and a
-- refused offer leave as it was, and that the walk's fuel is never used up.
use mathlib.Core.Path.{◌≡◌, refl, sym, ◌∙◌, subst}
use mathlib.Core.Logic.{◌⊎◌, inl, inr, ⊎_elim, ◌≢◌}
use mathlib.Core.Bool.{Bool, true, false, not, ◌&&◌, and-false}
use mathlib.Core.List.{List, []}
use Prim.Native.Nat.{ℕ, ◌+◌, ◌*◌, ◌≤◌, ◌<◌}
use native.Mathlib.Decide.{ℕ_discrete}
use native.Mathlib.Omega.{arith}
use lib.ListN.{length, get_or, set, length-set}
use lib.Dec.{leb, ltb, eqb}
use borrow.Author.Tests.{leb-true, ltb-true, eqb-true, eqb-false, not-true, le-leb, lt-leb, lt-ltb, le-ltb, eq-eqb, ne_eqb}
use Rattle.coloring.specs.Recolor.{row, vertex_possible_colors, first_possible_color, Walk, recolored, stopped, Waiting}
use Rattle.coloring.specs.Recolor.{walk, walk_fuel, walk_from, walk_start, recolor, Offerable}
use Rattle.coloring.specs.SplineTable.{Table, OfferAnswer, kept, declined, refused, Offered, outcome}
use Rattle.coloring.specs.SplineTable.{settled, walked_on, enter_pair, sound, try_add_edge, check_offer, offer}
use Rattle.coloring.specs.Answers.{refusal, Check, all_pass, first_refusal, passed_both, all-passed, one_failed, either_way}
use Rattle.coloring.specs.Sequence.{Pair}
use Rattle.coloring.specs.Bools.{and_left, and_right}
use Rattle.coloring.proofs.recolor.FreeColorLaws.{others}
use Rattle.coloring.proofs.recolor.UncolorLaws.{force_uncolors}
use Rattle.coloring.proofs.recolor.WalkLaws.{Ends, Going, going_start, walk_ends, walk_fuel_lem}
use Rattle.coloring.proofs.spline_table.TableLaws.{splines, sound-color, enter_again}

-- ---- the rule

module _ (t : Table) (a b : ℕ) where
  -- the entries with the pair in
  abbrev pub entered : List ℕ
  entered = enter_pair (splines t) t.edge_matrix a b 1

  -- the colours that are then free for b
  abbrev pub free_of_b : ℕ
  free_of_b = vertex_possible_colors t.coloring (row (splines t) entered b)

  abbrev pub SameColor : Type 0
  SameColor = get_or t.coloring a 0 ≡ get_or t.coloring b 0

  pub rule_differ : (SameColor → ⊥) → try_add_edge t a b ≡ outcome (kept 0) t.coloring entered
  unfolding try_add_edge
  rule_differ h = rw (ne_eqb (get_or t.coloring a 0) (get_or t.coloring b 0) h, try_add_edge)

  pub rule_free : SameColor → free_of_b ≢ 0 → try_add_edge t a b ≡ outcome (kept 0) (set t.coloring b (first_possible_color free_of_b)) entered
  unfolding try_add_edge
  rule_free same h = rw (eq-eqb (get_or t.coloring a 0) (get_or t.coloring b 0) same, ne_eqb free_of_b 0 h, try_add_edge)

  pub rule_walk : SameColor → free_of_b ≡ 0 → try_add_edge t a b ≡ walked_on t.coloring entered a b
  unfolding try_add_edge
  rule_walk same none = rw (eq-eqb (get_or t.coloring a 0) (get_or t.coloring b 0) same, eq-eqb free_of_b 0 none, try_add_edge)

  -- what holds of the outcome, shown of each case
  pub rule_cases : (P : Offered → Type 0) → ((SameColor → ⊥) → P (outcome (kept 0) t.coloring entered))
      → (SameColor → free_of_b ≢ 0 → P (outcome (kept 0) (set t.coloring b (first_possible_color free_of_b)) entered))
      → (SameColor → free_of_b ≡ 0 → (w : Walk) → recolor t.coloring entered a b ≡ w → P (settled w t.coloring entered a b))
      → P (try_add_edge t a b)
  unfolding walked_on
  rule_cases P differ free walked = go (ℕ_discrete (get_or t.coloring a 0) (get_or t.coloring b 0)) (ℕ_discrete free_of_b 0)
    where
      go : Dec SameColor → Dec (free_of_b ≡ 0) → P (try_add_edge t a b)
      go (no d) none = rw (rule_differ d) (differ d)
      go (yes e) (no f) = rw (rule_free e f) (free e f)
      go (yes e) (yes f) = rw (rule_walk e f) (walked e f _ refl)

-- ---- the checks

-- an offer that no check refuses
pub record Unrefused (t : Table) (a b : ℕ) : Type 0 where
  pub few : splines t ≤ 64
  pub size : length t.edge_matrix ≡ splines t * splines t
  pub is_sound : sound t ≡ true
  pub first : a < splines t
  pub second : b < splines t
  pub different : a ≢ b

pub unrefused_offerable : (t : Table) (a b : ℕ) → Unrefused t a b → Offerable t.coloring t.edge_matrix a b
unrefused_offerable t a b v =
    record { few = v.few; entries = v.size; first = v.first; second = v.second; color = sound-color t v.is_sound a v.first }

module _ (t : Table) (a b : ℕ) where
  abbrev checks : List Check
  checks = check_offer t a b

  -- the third check
  abbrev good : Bool
  good = sound t && ltb a (splines t) && ltb b (splines t) && not (eqb a b)

  pub check-many : 64 < splines t → first_refusal checks ≡ refusal 4
  unfolding first_refusal check_offer
  check-many h = rw (lt-leb (splines t) 64 h, first_refusal)

  module _ (few : splines t ≤ 64) where
    pub check-lengths : length t.edge_matrix ≢ splines t * splines t → first_refusal checks ≡ refusal 8
    unfolding first_refusal check_offer
    check-lengths h = rw (le-leb (splines t) 64 few, ne_eqb (length t.edge_matrix) (splines t * splines t) h, first_refusal)

    module _ (size : length t.edge_matrix ≡ splines t * splines t) where
      bad : good ≡ false → first_refusal checks ≡ refusal 10
      unfolding first_refusal check_offer
      bad e = rw (le-leb (splines t) 64 few, eq-eqb (length t.edge_matrix) (splines t * splines t) size, e, first_refusal)

      pub check_unsound : sound t ≡ false → first_refusal checks ≡ refusal 10
      check_unsound e = bad (rw e)

      pub check-first : splines t ≤ a → first_refusal checks ≡ refusal 10
      check-first h = bad (rw (le-ltb a (splines t) h, and-false (sound t)))

      pub check-second : splines t ≤ b → first_refusal checks ≡ refusal 10
      check-second h = bad (rw (le-ltb b (splines t) h, and-false (sound t && ltb a (splines t))))

      pub check_equal : a ≡ b → first_refusal checks ≡ refusal 10
      check_equal e = bad (rw (eq-eqb a b e) (and-false (sound t && ltb a (splines t) && ltb b (splines t))))

  pub check_passes : Unrefused t a b → first_refusal checks ≡ all_pass
  unfolding first_refusal check_offer
  check_passes v =
      let n = splines t in
      let passes : good ≡ true = rw (v.is_sound, lt-ltb a n v.first, lt-ltb b n v.second, ne_eqb a b v.different) in
      rw (le-leb n 64 v.few, eq-eqb (length t.edge_matrix) (n * n) v.size, passes, first_refusal)

  pub passed_unrefused : first_refusal checks ≡ all_pass → Unrefused t a b
  unfolding check_offer
  passed_unrefused e =
      let n = splines t in
      let few = passed_both 4 (leb n 64) _ e in
      let size = passed_both 8 (eqb (length t.edge_matrix) (n * n)) _ few.1 in
      let all = (passed_both 10 good [] size.1).0 in
      let three = and_left (sound t && ltb a n && ltb b n) _ all in
      let two = and_left (sound t && ltb a n) _ three in
      record {
        few = leb-true _ _ few.0;
        size = eqb-true _ _ size.0;
        is_sound = and_left (sound t) _ two;
        first = ltb-true _ _ (and_right (sound t) _ two);
        second = ltb-true _ _ (and_right (sound t && ltb a n) _ three);
        different = eqb-false _ _ (not-true _ (and_right (sound t && ltb a n && ltb b n) _ all));
      }

  -- a refused offer leaves the table as it came
  abbrev pub untouched : ℕ → Offered
  untouched number = record { answer = refused number; table = t }

  pub offer_refused : {number : ℕ} → first_refusal checks ≡ refusal number → offer t a b ≡ untouched number
  unfolding offer
  offer_refused e = one_failed checks untouched (try_add_edge t a b) e

  -- an offer of two different splines of a sound table is `try_add_edge`
  pub offer_rule : Unrefused t a b → offer t a b ≡ try_add_edge t a b
  unfolding offer
  offer_rule v = all-passed checks untouched (try_add_edge t a b) (check_passes v)

  -- every other is refused
  pub offer_cases : (P : Offered → Type 0) → ((number : ℕ) → P (untouched number)) → (Unrefused t a b → P (try_add_edge t a b)) → P (offer t a b)
  unfolding offer
  offer_cases P refuse tried = either_way checks untouched (try_add_edge t a b) P (λ e. tried (passed_unrefused e)) (λ number e. refuse number)

-- ---- the walk

module _ (coloring edge_matrix : List ℕ) (a b : ℕ) (color : get_or coloring a 0 < 3) where
  start-going : Going (length coloring) (walk_fuel (length coloring)) 0 (walk_start coloring edge_matrix a b).coloring
      (walk_start coloring edge_matrix a b).queue
  unfolding walk_start Waiting
  start-going =
      let u = force_uncolors (row (length coloring) edge_matrix b) _ (others (get_or coloring a 0) color).2 b (record { coloring = coloring; queue = [] }) in
      going_start (length coloring) _ _ (u.size ∙ length-set coloring b _) (u.waits tt)

  recolor-ends : Ends (recolor coloring edge_matrix a b)
  unfolding recolor walk_from
  recolor-ends = rw start-going.size (walk_ends (length coloring) edge_matrix a (get_or coloring a 0) _ _ _ start-going)

  recolor_fuel : (more : ℕ) → (let n = length coloring in let w = walk_start coloring edge_matrix a b in
      walk n edge_matrix a (get_or coloring a 0) (walk_fuel n + more) 0 w.coloring w.queue) ≡ recolor coloring edge_matrix a b
  unfolding recolor walk_from
  recolor_fuel more = sym (rw start-going.size (walk_fuel_lem (length coloring) edge_matrix a (get_or coloring a 0) more _ 0 _ _ start-going))

-- ---- the laws

-- the counter of an answer
abbrev pub counter : OfferAnswer → ℕ
counter (kept k) = k
counter (declined k) = k
counter (refused n) = 0

-- the splines a and b have one colour, and with the pair entered no colour is free for b
pub record NeedsWalk (t : Table) (a b : ℕ) : Type 0 where
  pub same : SameColor t a b
  pub none_free : free_of_b t a b ≡ 0

pub record OfferLaws (t : Table) (a b : ℕ) : Type 0 where
  -- the counter is 0 where there is no walk, and never above 17
  pub without_walk : (NeedsWalk t a b → ⊥) → counter (offer t a b).answer ≡ 0
  pub at_most17 : counter (offer t a b).answer ≤ 17
  -- a kept offer ends at 0 to 15, a declined one at 16 or 17
  pub kept_at : (k : ℕ) → (offer t a b).answer ≡ kept k → k ≤ 15
  pub declined_at : (k : ℕ) → (offer t a b).answer ≡ declined k → (k ≡ 16) ⊎ (k ≡ 17)
  -- a declined offer changes no colour; the pair's two entries become 0, and no other changes
  pub declined_colors : (k : ℕ) → (offer t a b).answer ≡ declined k → (offer t a b).table.coloring ≡ t.coloring
  pub declined_pairs : (k : ℕ) → (offer t a b).answer ≡ declined k
      → (offer t a b).table.edge_matrix ≡ enter_pair (splines t) t.edge_matrix a b 0
  -- a refused offer changes nothing
  pub refused_same : (number : ℕ) → (offer t a b).answer ≡ refused number → (offer t a b).table ≡ t
  -- the fuel of the walk is never used up: with any more of it the walk ends the same way
  pub fuel : Unrefused t a b → (more : ℕ) → (let w = walk_start t.coloring (entered t a b) a b in
      walk (splines t) (entered t a b) a (get_or t.coloring a 0) (walk_fuel (splines t) + more) 0 w.coloring w.queue)
      ≡ recolor t.coloring (entered t a b) a b

-- the laws of an answer
Says : Table → ℕ → ℕ → OfferAnswer → Table → Type 0
Says t a b (kept k) after = ((NeedsWalk t a b → ⊥) → k ≡ 0) × (k ≤ 15)
Says t a b (declined k) after =
    NeedsWalk t a b × ((k ≡ 16) ⊎ (k ≡ 17)) × (after.coloring ≡ t.coloring) × (after.edge_matrix ≡ enter_pair (splines t) t.edge_matrix a b 0)
Says t a b (refused n) after = after ≡ t

two : (k : ℕ) → (16 ≤ k) × (k ≤ 17) → Dec (k ≡ 16) → (k ≡ 16) ⊎ (k ≡ 17)
two k h (yes e) = inl e
two k h (no e) = inr (omega arith)

module _ (t : Table) (a b : ℕ) where
  try_says : Unrefused t a b → Says t a b (try_add_edge t a b).answer (try_add_edge t a b).table
  unfolding Says
  try_says v =
      rule_cases t a b (λ o. Says t a b o.answer o.table) (λ d. (λ h. refl, omega arith)) (λ e f. (λ h. refl, omega arith))
      (λ e f w q. ends w (subst Ends q (recolor-ends t.coloring _ a b (sound-color t v.is_sound a v.first))) (record { same = e; none_free = f }))
    where
      pair : Pair
      pair = record { a = a; b = b }

      ends : (w : Walk) → Ends w → NeedsWalk t a b
          → (let o = settled w t.coloring (entered t a b) a b in Says t a b o.answer o.table)
      ends (recolored after step) c needs = (λ h. absurd (h needs), c)
      ends (stopped step) c needs =
          (needs, two step c (ℕ_discrete step 16), refl, enter_again (splines t) t.edge_matrix pair v.first v.second v.different 1 0)

  says : Says t a b (offer t a b).answer (offer t a b).table
  unfolding Says
  says = offer_cases t a b (λ o. Says t a b o.answer o.table) (λ r. refl) try_says

  pub offer_laws : OfferLaws t a b
  unfolding Says
  offer_laws =
      record {
        without_walk = without (offer t a b).answer says;
        at_most17 = most (offer t a b).answer says;
        kept_at = λ k e. (at e).1;
        declined_at = λ k e. (at e).1;
        declined_colors = λ k e. (at e).2;
        declined_pairs = λ k e. (at e).3;
        refused_same = λ number e. at e;
        fuel = λ v. recolor_fuel t.coloring _ a b (sound-color t v.is_sound a v.first);
      }
    where
      at : {x : OfferAnswer} → (offer t a b).answer ≡ x → Says t a b x (offer t a b).table
      at e = subst (λ x. Says t a b x (offer t a b).table) e says

      without : (x : OfferAnswer) → Says t a b x (offer t a b).table → (NeedsWalk t a b → ⊥) → counter x ≡ 0
      without (kept k) s h = s.0 h
      without (declined k) s h = absurd (h s.0)
      without (refused n) s h = refl

      most : (x : OfferAnswer) → Says t a b x (offer t a b).table → counter x ≤ 17
      most (kept k) s = omega arith
      most (declined k) s = ⊎_elim (λ e. omega arith) (λ e. omega arith) s.1
      most (refused n) s = omega arith
