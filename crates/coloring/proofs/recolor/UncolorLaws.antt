-- Taking colours away: what it does to each spline and to the queue, its first step, and the steps of the code.
use mathlib.Core.Path.{◌≡◌, refl, sym, ap, ◌∙◌, subst⁻¹}
use mathlib.Core.Logic.{◌⊎◌, inl, inr, ◌≢◌}
use mathlib.Core.Bool.{Bool, true, false, ◌&&◌, cond, and-false}
use mathlib.Core.List.Memᴰ
use mathlib.Core.List.{List, [], ◌∷◌, ◌++◌, Memᴰ}
use Prim.Native.Nat.{ℕ, zero, suc, ◌+◌, ◌-◌, ◌≤◌, ◌<◌}
use native.Mathlib.Decide.{ℕ_discrete, dec_lt}
use native.Mathlib.Omega.{arith}
use native.Mathlib.Numerals.{add-one}
use lib.Dec.{eqb}
use lib.ListN.{length, get_or, set, length-set, length-append}
use lib.Seq.{get_or-set_same, get_or-set_other}
use borrow.Author.Tests.{eq-eqb, ne_eqb, eqb-true}
use Rattle.coloring.specs.Recolor.{Recoloring, uncolored, joined, uncolor_one, uncolor_from, uncolor_same_neighbors}
use Rattle.coloring.specs.Recolor.{force, Waiting, Uncoloring}
use Rattle.coloring.proofs.Lists.{get_d_any}
use Rattle.coloring.proofs.recolor.QueueLaws.{waiting_length, waiting_push}

-- spline j keeps its colour, or has none and waits
abbrev pub KeepsOrWaits : Recoloring → Recoloring → ℕ → Type 0
KeepsOrWaits w after j =
    (get_or after.coloring j 0 ≡ get_or w.coloring j 0) ⊎ ((get_or after.coloring j 0 ≡ uncolored) × Memᴰ j after.queue)

-- so does each spline, none that waited is lost, and who waits has no colour
pub record Uncolors (w after : Recoloring) : Type 0 where
  pub size : length after.coloring ≡ length w.coloring
  pub each : (j : ℕ) → j < length w.coloring → KeepsOrWaits w after j
  pub queued : (j : ℕ) → Memᴰ j w.queue → Memᴰ j after.queue
  pub waits : Waiting w.coloring w.queue → Waiting after.coloring after.queue

pub uncolors_none : (w : Recoloring) → Uncolors w w
uncolors_none w = record { size = refl; each = λ j h. inl refl; queued = λ j m. m; waits = λ h. h }

uncolors_both : {u v w : Recoloring} → Uncolors u v → Uncolors v w → Uncolors u w
uncolors_both {u} {v} {w} f g =
    record {
      size = g.size ∙ f.size;
      each = λ j h. go j (f.each j h) (g.each j (rw f.size h));
      queued = λ j m. g.queued j (f.queued j m);
      waits = λ h. g.waits (f.waits h);
    }
  where
    go : (j : ℕ) → KeepsOrWaits u v j → KeepsOrWaits v w j → KeepsOrWaits u w j
    go j x (inr y) = inr y
    go j (inl x) (inl y) = inl (y ∙ x)
    go j (inr (x, m)) (inl y) = inr (y ∙ x, g.queued j m)

-- a colour that a spline has not got does not come to it
uncolors_gone : {w after : Recoloring} → Uncolors w after → (c : ℕ) → c < 3 → (j : ℕ) → j < length w.coloring
    → get_or w.coloring j 0 ≢ c → get_or after.coloring j 0 ≢ c
unfolding uncolored
uncolors_gone {w} {after} f c small j h not e = go (f.each j h)
  where
    go : KeepsOrWaits w after j → ⊥
    go (inl x) = not (sym x ∙ e)
    go (inr (x, m)) = omega arith

-- a spline that still has its colour loses it and waits at the end
push_colored : (coloring queue : List ℕ) (i c : ℕ) → c < 3 → i < length coloring → get_or coloring i 0 ≡ c → Waiting coloring queue
    → Waiting (set coloring i uncolored) (queue ++ (i ∷ []))
unfolding uncolored
push_colored coloring queue i c small inside e h = waiting_push coloring queue i h (λ f. omega arith) inside

has_color : (coloring : List ℕ) (i c : ℕ) → c < 3 → get_or coloring i uncolored ≡ c → (i < length coloring) × (get_or coloring i 0 ≡ c)
unfolding uncolored
has_color [] i c small e = absurd (omega arith)
has_color (x ∷ coloring) zero c small e = (omega arith, e)
has_color (x ∷ coloring) (suc i) c small e = let r = has_color coloring i c small e in (omega arith, r.1)

module _ (entries : List ℕ) (c : ℕ) (small : c < 3) where
  abbrev pub taken : ℕ → Recoloring → Recoloring
  taken i w = record { coloring = set w.coloring i uncolored; queue = w.queue ++ (i ∷ []) }

  -- ---- one spline

  hit : (i : ℕ) (w : Recoloring) → joined entries i ≡ true → i < length w.coloring → get_or w.coloring i 0 ≡ c → uncolor_one entries c i w ≡ taken i w
  unfolding uncolor_one
  hit i w j h e = rw (j, eq-eqb _ c (get_d_any w.coloring i uncolored 0 h ∙ e))

  miss : (i : ℕ) (w : Recoloring) → (joined entries i && eqb (get_or w.coloring i uncolored) c) ≡ false → uncolor_one entries c i w ≡ w
  unfolding uncolor_one
  miss i w e = rw e

  pub one_uncolors : (i : ℕ) (w : Recoloring) → Uncolors w (uncolor_one entries c i w)
  unfolding uncolor_one
  one_uncolors i w = go (joined entries i) (eqb (get_or w.coloring i uncolored) c) refl
    where
      at : (j : ℕ) → j < length w.coloring → Dec (j ≡ i) → KeepsOrWaits w (taken i w) j
      at j h (yes e) =
          inr (rw e (get_or-set_same w.coloring i uncolored 0 (rw (← e) h)), Memᴰ.append_right w.queue (Memᴰ.head e))
      at j h (no e) = inl (get_or-set_other w.coloring i j uncolored 0 e)

      go : (p q : Bool) → eqb (get_or w.coloring i uncolored) c ≡ q → Uncolors w (cond (p && q) (taken i w) w)
      go true true e =
          let has = has_color w.coloring i c small (eqb-true _ c e) in
          record {
            size = length-set w.coloring i uncolored;
            each = λ j h. at j h (ℕ_discrete j i);
            queued = λ j m. Memᴰ.append_left (i ∷ []) m;
            waits = push_colored w.coloring w.queue i c small has.0 has.1;
          }
      go true false e = uncolors_none w
      go false q e = uncolors_none w

  one_gone : (i : ℕ) (w : Recoloring) → i < length w.coloring → joined entries i ≡ true → get_or (uncolor_one entries c i w).coloring i 0 ≢ c
  unfolding uncolor_one uncolored
  one_gone i w h j = go (ℕ_discrete (get_or w.coloring i 0) c)
    where
      go : Dec (get_or w.coloring i 0 ≡ c) → get_or (uncolor_one entries c i w).coloring i 0 ≢ c
      go (yes e) = λ q. let r = rw (hit i w j h e, get_or-set_same w.coloring i uncolored 0 h) at q in omega arith
      go (no e) = uncolors_gone (one_uncolors i w) c small i h e

  -- ---- a run of splines

  pub from_uncolors : (i k : ℕ) (w : Recoloring) → Uncolors w (uncolor_from entries c i k w)
  unfolding uncolor_from
  from_uncolors i zero w = uncolors_none w
  from_uncolors i (suc k) w = uncolors_both (one_uncolors i w) (from_uncolors (suc i) k (uncolor_one entries c i w))

  from_gone : (i k : ℕ) (w : Recoloring) (j : ℕ) → i ≤ j → j < i + k → j < length w.coloring → joined entries j ≡ true
      → get_or (uncolor_from entries c i k w).coloring j 0 ≢ c
  unfolding uncolor_from
  from_gone i zero w j low high h e = λ q. omega arith
  from_gone i (suc k) w j low high h e = go (ℕ_discrete j i) (from_gone (suc i) k (uncolor_one entries c i w) j)
    where
      Later : Type 0
      Later = suc i ≤ j → j < suc i + k → j < length (uncolor_one entries c i w).coloring → joined entries j ≡ true
          → get_or (uncolor_from entries c i (suc k) w).coloring j 0 ≢ c

      go : Dec (j ≡ i) → Later → get_or (uncolor_from entries c i (suc k) w).coloring j 0 ≢ c
      go (yes p) later =
          uncolors_gone (from_uncolors (suc i) k (uncolor_one entries c i w)) c small j (rw (one_uncolors i w).size h)
          (rw p (one_gone i w (rw (← p) h) (rw (← p) e)))
      go (no p) later = later (omega arith) (omega arith) (rw (one_uncolors i w).size h) e

  -- its first step, and its end
  pub uncolor_step : (i to : ℕ) (w : Recoloring) → i < to
      → uncolor_from entries c i (to - i) w ≡ uncolor_from entries c (i + 1) (to - (i + 1)) (uncolor_one entries c i w)
  unfolding uncolor_from
  uncolor_step i to w h =
      let e : to - i ≡ suc (to - (i + 1)) = omega arith in
      rw (e, add-one)

  pub uncolor_end : (i to : ℕ) (w : Recoloring) → to ≤ i → uncolor_from entries c i (to - i) w ≡ w
  unfolding uncolor_from
  uncolor_end i to w h =
      let e : to - i ≡ 0 = omega arith in
      rw e

  -- ---- the neighbours of v, all but v itself

  pub same_uncolors : (v : ℕ) (w : Recoloring) → Uncolors w (uncolor_same_neighbors entries c v w)
  unfolding uncolor_same_neighbors
  same_uncolors v w =
      let k = length w.coloring - suc v in
      uncolors_both (from_uncolors (suc v) k w) (from_uncolors 0 v (uncolor_from entries c (suc v) k w))

  same_gone : (v : ℕ) (w : Recoloring) (j : ℕ) → j ≢ v → j < length w.coloring → joined entries j ≡ true
      → get_or (uncolor_same_neighbors entries c v w).coloring j 0 ≢ c
  unfolding uncolor_same_neighbors
  same_gone v w j other h e = go (dec_lt j v)
    where
      rest : ℕ
      rest = length w.coloring - suc v

      upper : Recoloring
      upper = uncolor_from entries c (suc v) rest w

      fits : j < length upper.coloring
      fits = rw (from_uncolors (suc v) rest w).size h

      go : Dec (j < v) → get_or (uncolor_from entries c 0 v upper).coloring j 0 ≢ c
      go (yes p) = from_gone 0 v upper j (omega arith) (omega arith) fits e
      go (no p) = uncolors_gone (from_uncolors 0 v upper) c small j fits (from_gone (suc v) rest w j (omega arith) (omega arith) h e)

  -- v takes the colour
  pub force_uncolors : (v : ℕ) (w : Recoloring) → Uncolors (record { coloring = set w.coloring v c; queue = w.queue }) (force entries c v w)
  unfolding force
  force_uncolors v w = same_uncolors v _

  pub force_gone : (v : ℕ) (w : Recoloring) (j : ℕ) → j ≢ v → j < length w.coloring → joined entries j ≡ true
      → get_or (force entries c v w).coloring j 0 ≢ c
  unfolding force
  force_gone v w j other h e = same_gone v (record { coloring = set w.coloring v c; queue = w.queue }) j other (rw length-set h) e

  -- a neighbour that has it waits
  pub force_joins : (v : ℕ) (w : Recoloring) (j : ℕ) → j ≢ v → j < length w.coloring → joined entries j ≡ true → get_or w.coloring j 0 ≡ c
      → Memᴰ j (force entries c v w).queue
  unfolding force
  force_joins v w j other h e has = go ((force_uncolors v w).each j (rw length-set h))
    where
      go : KeepsOrWaits (record { coloring = set w.coloring v c; queue = w.queue }) (force entries c v w) j → Memᴰ j (force entries c v w).queue
      go (inl x) = absurd (force_gone v w j other h e (x ∙ get_or-set_other w.coloring v j c 0 other ∙ has))
      go (inr (x, m)) = m

-- ---- the steps of the code

module _ {w : Recoloring} {entries : List ℕ} {c : ℕ} (u : Uncoloring w entries c) where
  -- what holds before splines lose their colour holds afterwards
  pub still_uncoloring : {v after : Recoloring} → Uncolors w v → after ≡ v → Uncoloring after entries c
  still_uncoloring {v} {after} kept e =
      let same : length after.coloring ≡ length w.coloring = ap (λ (r : Recoloring). length r.coloring) e ∙ kept.size in
      record {
        queued =
            record {
              few = omega (arith, u.queued.few);
              waits = subst⁻¹ (λ (r : Recoloring). Waiting r.coloring r.queue) e (kept.waits u.queued.waits);
            };
        row = u.row ∙ sym same;
        color = u.color;
      }

  module _ (i : ℕ) (inside : i < length w.coloring) where
    -- there is a place for a spline that still has its colour
    pub has_room : get_or w.coloring i 0 ≡ c → length w.queue < 64
    has_room e =
        let h = waiting_length _ _ (push_colored w.coloring w.queue i c u.color inside e u.queued.waits) in
        let k = simp (length-append, length-set) at h in
        omega (arith, u.queued.few, k)

    pub put_one : get_or entries i 0 ≢ 0 → get_or w.coloring i 0 ≡ c → taken entries c u.color i w ≡ uncolor_one entries c i w
    unfolding joined
    put_one h e = sym (hit entries c u.color i w (rw (ne_eqb (get_or entries i 0) 0 h)) inside e)

    pub skip_entry : get_or entries i 0 ≡ 0 → w ≡ uncolor_one entries c i w
    unfolding joined
    skip_entry e = sym (miss entries c u.color i w (rw (eq-eqb (get_or entries i 0) 0 e)))

    pub skip_color : get_or w.coloring i 0 ≢ c → w ≡ uncolor_one entries c i w
    skip_color e =
        let other : eqb (get_or w.coloring i uncolored) c ≡ false = ne_eqb _ c (λ f. e (get_d_any w.coloring i 0 uncolored inside ∙ f)) in
        sym (miss entries c u.color i w (rw other (and-false (joined entries i))))
