-- The walk. One turn by its three cases, and what holds at the end of a walk if each turn keeps it; that `walk_fuel` is
-- never used up; the counters at which a walk can end; and the turns as the code makes them.
use mathlib.Core.Path.{◌≡◌, refl, sym, ap, ◌∙◌, subst⁻¹}
use mathlib.Core.Logic.{◌≢◌}
use mathlib.Core.List.Memᴰ
use mathlib.Core.List.{List, [], ◌∷◌, Memᴰ}
use Prim.Native.Nat.{ℕ, zero, suc, ◌+◌, ◌-◌, ◌*◌, ◌%◌, ◌≤◌, ◌<◌}
use native.Mathlib.Nat.{suc-add, suc-mul, mul-le-mul_right}
use native.Mathlib.Decide.{ℕ_discrete, dec_lt}
use native.Mathlib.Omega.{arith}
use lib.ListN.{length, set, drop, length-set}
use Rattle.std.proofs.Common.{Some, None, slice_get}
use borrow.Author.Tests.{eq-eqb, ne_eqb, le-leb, lt-leb}
use Rattle.coloring.specs.Recolor.{Recoloring, Walk, recolored, stopped, uncolored, joined, row}
use Rattle.coloring.specs.Recolor.{vertex_possible_colors, first_possible_color, force, forced_step, walk, walk_fuel, walk_from}
use Rattle.coloring.specs.Recolor.{Waiting, Uncoloring, Walking}
use Rattle.coloring.proofs.recolor.RowLaws.{row-length}
use Rattle.coloring.proofs.recolor.FreeColorLaws.{none_free, used_by, step_rises}
use Rattle.coloring.proofs.recolor.QueueLaws.{uncolored-inside, waiting_length, waiting_pop}
use Rattle.coloring.proofs.recolor.UncolorLaws.{force_uncolors, force_joins}

-- a list with an element is not empty
member_some : {A : Type 0} {x : A} (l : List A) → Memᴰ x l → 0 < length l
member_some [] m = absurd (Memᴰ.not-nil m)
member_some (y ∷ l) m = omega arith

module _ (n : ℕ) (edge_matrix : List ℕ) where
  abbrev pub free_of : List ℕ → ℕ → ℕ
  free_of coloring i = vertex_possible_colors coloring (row n edge_matrix i)

  -- the step whose colour is forced on spline i
  abbrev pub step_of : ℕ → ℕ → ℕ → ℕ → ℕ
  step_of a c i step = forced_step (joined (row n edge_matrix i) a) c step

  -- the colours and the queue after the colour x is forced on it
  abbrev pub forced : ℕ → ℕ → List ℕ → List ℕ → Recoloring
  forced i x coloring queue = force (row n edge_matrix i) x i (record { coloring = coloring; queue = queue })

-- ---- one turn

module _ (n : ℕ) (edge_matrix : List ℕ) (a c fuel step : ℕ) (coloring : List ℕ) (i : ℕ) (queue : List ℕ) where
  turn_stop : 16 ≤ step → walk n edge_matrix a c (suc fuel) step coloring (i ∷ queue) ≡ stopped step
  unfolding walk
  turn_stop h = rw (le-leb 16 step h, walk)

  turn_free : step < 16 → free_of n edge_matrix coloring i ≢ 0
      → walk n edge_matrix a c (suc fuel) step coloring (i ∷ queue)
      ≡ walk n edge_matrix a c fuel step (set coloring i (first_possible_color (free_of n edge_matrix coloring i))) queue
  unfolding walk
  turn_free h p = rw (lt-leb 16 step h, ne_eqb (free_of n edge_matrix coloring i) 0 p, walk)

  turn-forced : step < 16 → free_of n edge_matrix coloring i ≡ 0
      → walk n edge_matrix a c (suc fuel) step coloring (i ∷ queue)
      ≡ (let s = step_of n edge_matrix a c i step in
      let w = forced n edge_matrix i (s % 3) coloring queue in
      walk n edge_matrix a c fuel (suc s) w.coloring w.queue)
  unfolding walk
  turn-forced h p = rw (lt-leb 16 step h, eq-eqb (free_of n edge_matrix coloring i) 0 p, walk)

-- What holds of a walk's end, Q, if P holds of its fuel, counter, colours and queue before each turn.
pub record Turns (n : ℕ) (edge_matrix : List ℕ) (a c : ℕ) (P : ℕ → ℕ → List ℕ → List ℕ → Type 0) (Q : Walk → Type 0) : Type 0 where
  pub out : (step : ℕ) (coloring queue : List ℕ) → P 0 step coloring queue → Q (stopped step)
  pub empty : (f step : ℕ) (coloring : List ℕ) → P (suc f) step coloring [] → Q (recolored coloring step)
  pub stop : (f step : ℕ) (coloring : List ℕ) (i : ℕ) (queue : List ℕ) → 16 ≤ step → P (suc f) step coloring (i ∷ queue) → Q (stopped step)
  pub free : (f step : ℕ) (coloring : List ℕ) (i : ℕ) (queue : List ℕ) → step < 16 → free_of n edge_matrix coloring i ≢ 0
      → P (suc f) step coloring (i ∷ queue) → P f step (set coloring i (first_possible_color (free_of n edge_matrix coloring i))) queue
  pub forces : (f step : ℕ) (coloring : List ℕ) (i : ℕ) (queue : List ℕ) → step < 16 → free_of n edge_matrix coloring i ≡ 0
      → P (suc f) step coloring (i ∷ queue)
      → (let s = step_of n edge_matrix a c i step in
      let w = forced n edge_matrix i (s % 3) coloring queue in
      P f (suc s) w.coloring w.queue)

pub turns : {n : ℕ} {edge_matrix : List ℕ} {a c : ℕ} {P : ℕ → ℕ → List ℕ → List ℕ → Type 0} {Q : Walk → Type 0} → Turns n edge_matrix a c P Q
    → (fuel step : ℕ) (coloring queue : List ℕ) → P fuel step coloring queue → Q (walk n edge_matrix a c fuel step coloring queue)
unfolding walk
turns t zero step coloring queue p = t.out step coloring queue p
turns t (suc f) step coloring [] p = t.empty f step coloring p
turns {n} {edge_matrix} {a} {c} {P} {Q} t (suc f) step coloring (i ∷ queue) p =
    here (dec_lt step 16) (ℕ_discrete (free_of n edge_matrix coloring i) 0) (turns t f)
  where
    here : Dec (step < 16) → Dec (free_of n edge_matrix coloring i ≡ 0)
        → ((s : ℕ) (l q : List ℕ) → P f s l q → Q (walk n edge_matrix a c f s l q)) → Q (walk n edge_matrix a c (suc f) step coloring (i ∷ queue))
    here (no h) none rest = rw (turn_stop n edge_matrix a c f step coloring i queue (omega arith)) (t.stop f step coloring i queue (omega arith) p)
    here (yes h) (no e) rest = rw (turn_free n edge_matrix a c f step coloring i queue h e) (rest step _ queue (t.free f step coloring i queue h e p))
    here (yes h) (yes e) rest = rw (turn-forced n edge_matrix a c f step coloring i queue h e) (rest _ _ _ (t.forces f step coloring i queue h e p))

-- ---- the turns that are left

-- at most n before the next forced colour, and n + 1 for each of the forced colours that are left
pub left : ℕ → ℕ → ℕ → ℕ
left n step waiting = (16 - step) * suc n + waiting

-- a forced colour costs more than a whole queue
left-forced : (n step s k j : ℕ) → step < 16 → step ≤ s → k ≤ n → left n (suc s) k < left n step j
unfolding left
left-forced n step s k j h g b =
    let e : 16 - step ≡ suc (15 - step) = omega arith in
    let m : (16 - suc s) * suc n ≤ (15 - step) * suc n = mul-le-mul_right (suc n) (omega arith) in
    rw (e, suc-mul) (omega arith)

pub left_free : (n step j k : ℕ) → j < k → left n step j < left n step k
unfolding left
left_free n step j k h = omega arith

-- a walk that has come to these colours and this queue, with fuel enough
pub record Going (n fuel step : ℕ) (coloring queue : List ℕ) : Type 0 where
  pub size : length coloring ≡ n
  pub waits : Waiting coloring queue
  pub enough : left n step (length queue) < fuel

pub going_start : (n : ℕ) (coloring queue : List ℕ) → length coloring ≡ n → Waiting coloring queue → Going n (walk_fuel n) 0 coloring queue
unfolding left walk_fuel
going_start n coloring queue size w = record { size = size; waits = w; enough = omega (arith, waiting_length coloring queue w) }

module _ {n fuel step : ℕ} {coloring : List ℕ} {i : ℕ} {queue : List ℕ} (g : Going n (suc fuel) step coloring (i ∷ queue)) where
  going_free : (x : ℕ) → Going n fuel step (set coloring i x) queue
  going_free x =
      record {
        size = length-set coloring i x ∙ g.size;
        waits = waiting_pop coloring queue i x g.waits;
        enough = omega (arith, left_free n step (length queue) (suc (length queue)) (omega arith), g.enough);
      }

  module _ (edge_matrix : List ℕ) (a c : ℕ) (h : step < 16) where
    abbrev s : ℕ
    s = step_of n edge_matrix a c i step

    abbrev next : Recoloring
    next = forced n edge_matrix i (s % 3) coloring queue

    going-forced : Going n fuel (suc s) next.coloring next.queue
    going-forced =
        let u = force_uncolors (row n edge_matrix i) (s % 3) (omega arith) i (record { coloring = coloring; queue = queue }) in
        let size' : length next.coloring ≡ n = u.size ∙ length-set coloring i (s % 3) ∙ g.size in
        let waits' = u.waits (waiting_pop coloring queue i (s % 3) g.waits) in
        let few = waiting_length next.coloring next.queue waits' in
        let less = left-forced n step s (length next.queue) (suc (length queue)) h (step_rises (joined (row n edge_matrix i) a) c step).0 (omega arith) in
        record { size = size'; waits = waits'; enough = omega (arith, g.enough) }

    -- where no colour is free, a forced one takes the colour of some neighbour, which then waits
    forced_some : free_of n edge_matrix coloring i ≡ 0 → 0 < length next.queue
    unfolding Waiting uncolored
    forced_some none =
        let u = used_by (s % 3) coloring (row n edge_matrix i) (none_free coloring (row n edge_matrix i) none (s % 3) (omega arith)) in
        let other : u.spline ≢ i = λ e. omega (arith, rw e at u.has, g.waits.0) in
        member_some next.queue
        (force_joins (row n edge_matrix i) (s % 3) (omega arith) i (record { coloring = coloring; queue = queue }) u.spline other u.inside u.joins
        u.has)

-- ---- the fuel, and the counters at the end

-- a walk whose queue is empty ends at 0 to 15, one that was stopped at 16 or 17
abbrev pub Ends : Walk → Type 0
Ends (recolored coloring step) = step ≤ 15
Ends (stopped step) = (16 ≤ step) × (step ≤ 17)

module _ (n : ℕ) (edge_matrix : List ℕ) (a c : ℕ) where
  -- with any more fuel the walk is the same
  pub walk_fuel_lem : (k fuel step : ℕ) (coloring queue : List ℕ) → Going n fuel step coloring queue
      → walk n edge_matrix a c fuel step coloring queue ≡ walk n edge_matrix a c (fuel + k) step coloring queue
  unfolding walk
  walk_fuel_lem k fuel step coloring queue g = turns {P = Same} {Q = λ w. w ≡ whole} go fuel step coloring queue (g, refl)
    where
      whole : Walk
      whole = walk n edge_matrix a c (fuel + k) step coloring queue

      Same : ℕ → ℕ → List ℕ → List ℕ → Type 0
      Same f s l q = Going n f s l q × (walk n edge_matrix a c (f + k) s l q ≡ whole)

      go : Turns n edge_matrix a c Same (λ w. w ≡ whole)
      go =
          record {
            out = λ s l q p. absurd (omega (arith, p.0.enough));
            empty = λ f s l p. rw suc-add at p.1;
            stop = λ f s l i q h p. sym (turn_stop n edge_matrix a c (f + k) s l i q h) ∙ (rw suc-add at p.1);
            free = λ f s l i q h e p. (going_free p.0 _, sym (turn_free n edge_matrix a c (f + k) s l i q h e) ∙ (rw suc-add at p.1));
            forces =
                λ f s l i q h e p. (going-forced p.0 edge_matrix a c h, sym (turn-forced n edge_matrix a c (f + k) s l i q h e) ∙ (rw suc-add at p.1));
          }

  pub walk_ends : (fuel : ℕ) (coloring queue : List ℕ) → Going n fuel 0 coloring queue → Ends (walk n edge_matrix a c fuel 0 coloring queue)
  walk_ends fuel coloring queue g = turns {P = Low} {Q = Ends} go fuel 0 coloring queue (g, (omega arith, λ e. omega arith))
    where
      Low : ℕ → ℕ → List ℕ → List ℕ → Type 0
      Low f s l q = Going n f s l q × ((s ≤ 17) × (length q ≡ 0 → s ≤ 15))

      go : Turns n edge_matrix a c Low Ends
      go =
          record {
            out = λ s l q p. absurd (omega (arith, p.0.enough));
            empty = λ f s l p. p.1.1 refl;
            stop = λ f s l i q h p. (h, p.1.0);
            free = λ f s l i q h e p. (going_free p.0 _, (p.1.0, λ z. omega arith));
            forces =
                λ f s l i q h e p. (
                  going-forced p.0 edge_matrix a c h,
                  (omega (arith, (step_rises (joined (row n edge_matrix i) a) c s).1), λ z. absurd (omega (arith, forced_some p.0 edge_matrix a c h e))),
                );
          }

-- ---- the turns of the code

-- a forced colour as the code makes it: the row cut out, and the step that the inner loop found
pub forced_same : (n : ℕ) (edge_matrix : List ℕ) (i : ℕ) (coloring queue entries : List ℕ) (s t : ℕ) → entries ≡ row n edge_matrix i → t ≡ s
    → force entries (t % 3) i (record { coloring = coloring; queue = queue }) ≡ forced n edge_matrix i (s % 3) coloring queue
forced_same n edge_matrix i coloring queue entries s t cut e = rw (cut, e)

-- a walk whose end is `whole` has come to these colours, this queue and this step
pub record WalkInvariant (n : ℕ) (edge_matrix : List ℕ) (a c : ℕ) (whole : Walk) (coloring queue : List ℕ) (step : ℕ) : Type 0 where
  pub few : n ≤ 64
  pub low : step ≤ 17
  pub fuel : ℕ
  pub going : Going n fuel step coloring queue
  pub rest : walk n edge_matrix a c fuel step coloring queue ≡ whole

pub walk_begins : {n : ℕ} {edge_matrix : List ℕ} (a c : ℕ) {w : Recoloring} → Walking w n a
    → WalkInvariant n edge_matrix a c (walk_from edge_matrix a c w) w.coloring w.queue 0
unfolding walk_from
walk_begins a c {w} k =
    rw k.size (record {
      few = k.queued.few;
      low = omega arith;
      fuel = walk_fuel (length w.coloring);
      going = going_start (length w.coloring) w.coloring w.queue refl k.queued.waits;
      rest = refl;
    })

-- the queue by its first
pub first-rest : (queue : List ℕ) (i : ℕ) → Some i ≡ slice_get queue 0 → queue ≡ i ∷ drop 1 queue
first-rest [] i e = absurd cc
first-rest (j ∷ queue) i e = ap (λ (k : ℕ). k ∷ queue) (sym cc)

pub none_first : (queue : List ℕ) → None ≡ slice_get queue 0 → queue ≡ []
none_first [] e = refl
none_first (j ∷ queue) e = absurd cc

pub walk-done : {n : ℕ} {edge_matrix : List ℕ} {a c : ℕ} {whole : Walk} {coloring : List ℕ} {step : ℕ}
    → WalkInvariant n edge_matrix a c whole coloring [] step → recolored coloring step ≡ whole
unfolding walk
walk-done {n} {edge_matrix} {a} {c} {whole} {coloring} {step} g = go g.fuel g.going.enough g.rest
  where
    go : (f : ℕ) → left n step 0 < f → walk n edge_matrix a c f step coloring [] ≡ whole → recolored coloring step ≡ whole
    go zero h r = absurd (omega arith)
    go (suc f) h r = r

-- a turn of the spline that waits longest
module _ {n : ℕ} {edge_matrix : List ℕ} {a c : ℕ} {whole : Walk} {coloring : List ℕ} {spline : ℕ} {queue : List ℕ} {step : ℕ}
    (g : WalkInvariant n edge_matrix a c whole coloring (spline ∷ queue) step) where
  -- the fuel for it
  record Turn : Type 0 where
    fuel : ℕ
    going : Going n (suc fuel) step coloring (spline ∷ queue)
    rest : walk n edge_matrix a c (suc fuel) step coloring (spline ∷ queue) ≡ whole

  turn : Turn
  turn = go g.fuel g.going g.rest
    where
      go : (f : ℕ) → Going n f step coloring (spline ∷ queue) → walk n edge_matrix a c f step coloring (spline ∷ queue) ≡ whole → Turn
      go zero t r = absurd (omega (arith, t.enough))
      go (suc f) t r = record { fuel = f; going = t; rest = r }

  pub walk_stops : 16 ≤ step → stopped step ≡ whole
  walk_stops h = sym (turn_stop n edge_matrix a c turn.fuel step coloring spline queue h) ∙ turn.rest

  -- it is one of the splines
  pub walk_first : spline < n
  unfolding Waiting
  walk_first = omega (arith, uncolored-inside coloring spline turn.going.waits.0, turn.going.size)

  -- it takes a free colour
  pub walk_free : step < 16 → free_of n edge_matrix coloring spline ≢ 0
      → WalkInvariant n edge_matrix a c whole (set coloring spline (first_possible_color (free_of n edge_matrix coloring spline))) queue step
  walk_free h p =
      record {
        few = g.few;
        low = g.low;
        fuel = turn.fuel;
        going = going_free turn.going _;
        rest = sym (turn_free n edge_matrix a c turn.fuel step coloring spline queue h p) ∙ turn.rest;
      }

  -- it takes a forced colour x, and the neighbours that have it may lose it
  pub walk_uncolors : length edge_matrix ≡ n * n → (x : ℕ) → x < 3
      → Uncoloring (record { coloring = set coloring spline x; queue = queue }) (row n edge_matrix spline) x
  walk_uncolors e x small =
      let free = going_free turn.going x in
      record {
        queued = record { few = omega (arith, g.few, free.size); waits = free.waits };
        row = row-length n spline edge_matrix e walk_first ∙ sym free.size;
        color = small;
      }

  module _ (h : step < 16) (none : free_of n edge_matrix coloring spline ≡ 0) (next : Recoloring)
      (e : next ≡ forced n edge_matrix spline (step_of n edge_matrix a c spline step % 3) coloring queue) where
    abbrev s' : ℕ
    s' = step_of n edge_matrix a c spline step

    after : Going n turn.fuel (suc s') next.coloring next.queue
    after = subst⁻¹ (λ (v : Recoloring). Going n turn.fuel (suc s') v.coloring v.queue) e (going-forced turn.going edge_matrix a c h)

    pub walk_forces : WalkInvariant n edge_matrix a c whole next.coloring next.queue (suc s')
    walk_forces =
        record {
          few = g.few;
          low = omega (arith, (step_rises (joined (row n edge_matrix spline) a) c step).1);
          fuel = turn.fuel;
          going = after;
          rest =
              ap (λ (v : Recoloring). walk n edge_matrix a c turn.fuel (suc s') v.coloring v.queue) e
              ∙ sym (turn-forced n edge_matrix a c turn.fuel step coloring spline queue h none)
              ∙ turn.rest;
        }

    pub less_forced : left n (suc s') (length next.queue) < left n step (suc (length queue))
    less_forced =
        let few = waiting_length next.coloring next.queue after.waits in
        left-forced n step s' (length next.queue) (suc (length queue)) h
        (step_rises (joined (row n edge_matrix spline) a) c step).0 (omega (arith, few, after.size))
