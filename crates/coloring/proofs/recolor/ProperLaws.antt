-- What holds of the colours each time a spline is taken off the queue: who has no colour waits, and two neighbours have
-- one colour only where they had it before. So a walk that is not stopped ends in colours without a new clash.
use mathlib.Core.Path.{◌≡◌, sym, ◌∙◌}
use mathlib.Core.Logic.{◌⊎◌, inl, inr, ⊎_elim, ⊎_map, ◌≢◌}
use mathlib.Core.List.Memᴰ
use mathlib.Core.List.{List, [], ◌∷◌, Memᴰ}
use Prim.Native.Nat.{ℕ, ◌<◌}
use native.Mathlib.Decide.{ℕ_discrete}
use native.Mathlib.Omega.{arith}
use lib.ListN.{length, get_or, set, length-set}
use lib.Seq.{get_or-set_same, get_or-set_other}
use borrow.Author.Tests.{ne_eqb}
use Rattle.coloring.specs.Recolor.{uncolored, row, joined, Recoloring, force, Walk, recolored, stopped, walk_fuel, walk_from, walk_start, recolor}
use Rattle.coloring.specs.SplineTable.{entry}
use Rattle.coloring.proofs.recolor.RowLaws.{row-entry, Matrix}
use Rattle.coloring.proofs.recolor.FreeColorLaws.{Free, uses_false, possible_free, others}
use Rattle.coloring.proofs.recolor.UncolorLaws.{KeepsOrWaits, Uncolors, uncolors_none, force_uncolors, force_gone}
use Rattle.coloring.proofs.recolor.WalkLaws.{Turns, turns}

-- Of all splines but v (of all, where v is n): each has a colour or waits; and two neighbours have one colour only
-- where they are an `Old` pair or wait.
pub record Proper (Old : ℕ → ℕ → Type 0) (n : ℕ) (edge_matrix : List ℕ) (v : ℕ) (w : Recoloring) : Type 0 where
  pub size : length w.coloring ≡ n
  pub colored : (i : ℕ) → i < n → i ≢ v → (get_or w.coloring i 0 < 3) ⊎ Memᴰ i w.queue
  pub proper : (i j : ℕ) → i < n → j < n → i ≢ v → j ≢ v → entry n edge_matrix i j ≢ 0
      → get_or w.coloring i 0 ≡ get_or w.coloring j 0 → Old i j ⊎ Memᴰ i w.queue

-- with nobody waiting: each has a colour; and neighbours of one colour are old
nobody : {A : Type 0} {i : ℕ} → A ⊎ Memᴰ i [] → A
nobody (inl x) = x
nobody (inr m) = absurd (Memᴰ.not-nil m)

module _ {Old : ℕ → ℕ → Type 0} {n : ℕ} {edge_matrix coloring : List ℕ} (p : Proper Old n edge_matrix n (record { coloring = coloring; queue = [] })) where
  pub proper_color : (i : ℕ) → i < n → get_or coloring i 0 < 3
  proper_color i h = nobody (p.colored i h (omega arith))

  pub proper_old : (i j : ℕ) → i < n → j < n → entry n edge_matrix i j ≢ 0 → get_or coloring i 0 ≡ get_or coloring j 0 → Old i j
  proper_old i j h k e q = nobody (p.proper i j h k (omega arith) (omega arith) e q)

-- how a walk may end
abbrev pub Ends : (ℕ → ℕ → Type 0) → ℕ → List ℕ → Walk → Type 0
Ends Old n edge_matrix (recolored after step) = Proper Old n edge_matrix n (record { coloring = after; queue = [] })
Ends Old n edge_matrix (stopped step) = Unit {0}

module _ (Old : ℕ → ℕ → Type 0) (n : ℕ) (edge_matrix : List ℕ) (matrix : Matrix n edge_matrix) where
  -- spline v takes the colour c, and no neighbour is left with it
  take-color : (v c : ℕ) (w after : Recoloring) → c < 3 → Proper Old n edge_matrix v w
      → Uncolors (record { coloring = set w.coloring v c; queue = w.queue }) after
      → ((j : ℕ) → j < n → j ≢ v → entry n edge_matrix v j ≢ 0 → get_or after.coloring j 0 ≢ c)
      → Proper Old n edge_matrix n after
  unfolding uncolored
  take-color v c w after color p u gone =
      record {
        size = u.size ∙ length-set w.coloring v c ∙ p.size;
        colored = λ i h iv. colored i h (u.each i (fits h)) (ℕ_discrete i v);
        proper = λ i j hi hj iv jv e q. pairs i j hi hj e q (u.each i (fits hi)) (u.each j (fits hj)) (ℕ_discrete i v) (ℕ_discrete j v);
      }
    where
      before : Recoloring
      before = record { coloring = set w.coloring v c; queue = w.queue }

      fits : {i : ℕ} → i < n → i < length (set w.coloring v c)
      fits h = rw (length-set, p.size) h

      here : {i : ℕ} → i < n → i ≡ v → get_or (set w.coloring v c) i 0 ≡ c
      here h e = rw e (get_or-set_same w.coloring v c 0 (rw (← e, p.size) h))

      there : {i : ℕ} → i ≢ v → get_or (set w.coloring v c) i 0 ≡ get_or w.coloring i 0
      there e = get_or-set_other w.coloring v _ c 0 e

      colored : (i : ℕ) → i < n → KeepsOrWaits before after i → Dec (i ≡ v) → (get_or after.coloring i 0 < 3) ⊎ Memᴰ i after.queue
      colored i h (inr x) s = inr x.1
      colored i h (inl x) (yes s) = inl (rw (x ∙ here h s) color)
      colored i h (inl x) (no s) = ⊎_map (λ b. rw (x ∙ there s) b) (u.queued i) (p.colored i h s)

      waits : (i : ℕ) → get_or after.coloring i 0 ≡ uncolored → (get_or after.coloring i 0 < 3) ⊎ Memᴰ i after.queue → Memᴰ i after.queue
      waits i e (inl b) = absurd (omega arith)
      waits i e (inr m) = m

      pairs : (i j : ℕ) → i < n → j < n → entry n edge_matrix i j ≢ 0 → get_or after.coloring i 0 ≡ get_or after.coloring j 0
          → KeepsOrWaits before after i → KeepsOrWaits before after j → Dec (i ≡ v) → Dec (j ≡ v) → Old i j ⊎ Memᴰ i after.queue
      pairs i j hi hj e q (inr x) y s t = inr x.1
      pairs i j hi hj e q (inl x) (inr y) s t = inr (waits i (q ∙ y.0) (colored i hi (inl x) s))
      pairs i j hi hj e q (inl x) (inl y) (yes s) (yes t) = absurd (e (rw (s ∙ sym t) (matrix.loopless j hj)))
      pairs i j hi hj e q (inl x) (inl y) (yes s) (no t) = absurd (gone j hj t (rw (← s) e) (sym q ∙ x ∙ here hi s))
      pairs i j hi hj e q (inl x) (inl y) (no s) (yes t) = absurd (gone i hi s (λ z. e (matrix.symmetric i j hi hj ∙ rw t z)) (q ∙ y ∙ here hj t))
      pairs i j hi hj e q (inl x) (inl y) (no s) (no t) =
          ⊎_map (λ old. old) (u.queued i) (p.proper i j hi hj s t e (sym (x ∙ there s) ∙ q ∙ y ∙ there t))

  -- a free colour
  pub take_free : (v c : ℕ) (w : Recoloring) → Free w.coloring (row n edge_matrix v) c → Proper Old n edge_matrix v w
      → Proper Old n edge_matrix n (record { coloring = set w.coloring v c; queue = w.queue })
  take_free v c w free p =
      take-color v c w _ free.color p (uncolors_none _)
      (λ j h other e. rw (get_or-set_other w.coloring v j c 0 other)
      (uses_false c w.coloring (row n edge_matrix v) free.unused j (rw p.size h) (rw (row-entry n edge_matrix v j h) e)))

  -- a forced colour, which the neighbours that have it lose
  take-forced : (v c : ℕ) (w : Recoloring) → c < 3 → Proper Old n edge_matrix v w → Proper Old n edge_matrix n (force (row n edge_matrix v) c v w)
  unfolding joined
  take-forced v c w color p =
      take-color v c w _ color p (force_uncolors (row n edge_matrix v) c color v w)
      (λ j h other e. force_gone (row n edge_matrix v) c color v w j other (rw p.size h) (rw (row-entry n edge_matrix v j h, ne_eqb _ 0 e)))

  -- the next spline of the queue
  off-queue : (coloring : List ℕ) (i : ℕ) (queue : List ℕ) → Proper Old n edge_matrix n (record { coloring = coloring; queue = i ∷ queue })
      → Proper Old n edge_matrix i (record { coloring = coloring; queue = queue })
  off-queue coloring i queue p =
      record {
        size = p.size;
        colored = λ k h other. ⊎_map (λ b. b) (rest k other) (p.colored k h (omega arith));
        proper = λ k j hk hj x y e q. ⊎_map (λ old. old) (rest k x) (p.proper k j hk hj (omega arith) (omega arith) e q);
      }
    where
      rest : (k : ℕ) → k ≢ i → Memᴰ k (i ∷ queue) → Memᴰ k queue
      rest k other m = ⊎_elim (λ e. absurd (other e)) (λ m. m) (Memᴰ.cases_cons m)

  abbrev Holds : ℕ → ℕ → List ℕ → List ℕ → Type 0
  Holds fuel step coloring queue = Proper Old n edge_matrix n (record { coloring = coloring; queue = queue })

  pub recolor-ends : (coloring : List ℕ) (a b : ℕ) → get_or coloring a 0 < 3 → Proper Old n edge_matrix b (record { coloring = coloring; queue = [] })
      → Ends Old n edge_matrix (recolor coloring edge_matrix a b)
  unfolding recolor walk_from walk_start
  recolor-ends coloring a b h p = rw start.size (turns {P = Holds} {Q = Ends Old n edge_matrix} go (walk_fuel n) 0 _ _ start)
    where
      start : Proper Old n edge_matrix n (walk_start coloring edge_matrix a b)
      start = rw p.size (take-forced b _ _ (others (get_or coloring a 0) h).2 p)

      go : Turns n edge_matrix a (get_or coloring a 0) Holds (Ends Old n edge_matrix)
      go =
          record {
            out = λ s l q p. tt;
            empty = λ f s l p. p;
            stop = λ f s l i q h p. tt;
            free = λ f s l i q h e p. take_free i _ _ (possible_free l (row n edge_matrix i) (ne_eqb _ 0 e)) (off-queue l i q p);
            forces = λ f s l i q h e p. take-forced i _ _ (omega arith) (off-queue l i q p);
          }
