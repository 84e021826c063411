-- The recolouring behind an offer, after coloring/by_distance.rs (SCOPE, Offers): free colours, colours taken away, the
-- walk. The parts stand in the source's order and under its names. A colour is 0, 1 or 2; 3 is the source's -1, a
-- spline without a colour. Last comes what the functions of the recolouring promise each other.
use Rattle.std.specs.Prelude.{◌≡◌, Bool, true, false, not, ◌&&◌, ◌||◌, cond, List, [], ◌∷◌, ◌++◌, ℕ, zero, suc, ◌+◌, ◌-◌, ◌*◌, ◌%◌, ◌^◌, ◌≤◌, ◌<◌, length}
use Rattle.std.specs.Prelude.{get_or, take, drop, set, leb, eqb}
use Rattle.coloring.specs.Limits.{max_splines}
use Rattle.coloring.specs.Queue.{waits}
use Rattle.coloring.specs.declared.recolor.Walker.{Walker}
use Rattle.coloring.specs.declared.spline_table.Offer.{Offer}
use Rattle.coloring.specs.declared.spline_table.Offer.TheVariants.{Kept, Declined}

unfoldable pub uncolored : ℕ
uncolored = 3

-- ---- rows: n splines have n × n entries by rows, not 0 where a pair is kept

-- the row of spline v among n: its entries with every other spline
unfoldable pub row : ℕ → List ℕ → ℕ → List ℕ
row n edge_matrix v = take n (drop (v * n) edge_matrix)

-- whether the entry of spline i in a row is there and not 0
unfoldable pub joined : List ℕ → ℕ → Bool
joined entries i = not (eqb (get_or entries i 0) 0)

-- ---- the free colours

-- whether some spline that the row joins has the colour c
unfoldable pub uses : ℕ → List ℕ → List ℕ → Bool
uses c [] entries = false
uses c (x ∷ coloring) [] = false
uses c (x ∷ coloring) (e ∷ entries) = (not (eqb e 0) && eqb x c) || uses c coloring entries

-- The colours that no neighbour has, as a set: 1 for the colour 0, 2 for 1, 4 for 2. A neighbour without a colour uses
-- up none.
unfoldable pub vertex_possible_colors : List ℕ → List ℕ → ℕ
unfolding uses
vertex_possible_colors coloring entries =
    cond (uses 0 coloring entries) 0 1 + cond (uses 1 coloring entries) 0 2 + cond (uses 2 coloring entries) 0 4

-- FIRST_POSSIBLE_COLOR: the colour taken of a set. {0, 2} gives 2.
unfoldable pub first_possible_color : ℕ → ℕ
first_possible_color possible = get_or (3 ∷ 0 ∷ 1 ∷ 0 ∷ 2 ∷ 2 ∷ 1 ∷ 0 ∷ []) possible 3

-- ---- taking colours away

-- the colours while a walk goes on, and the splines that wait for one
pub record Recoloring : Type 0 where
  pub coloring : List ℕ
  pub queue : List ℕ

-- spline i loses its colour and joins the queue, where the row joins it and it has the colour c
unfoldable pub uncolor_one : List ℕ → ℕ → ℕ → Recoloring → Recoloring
unfolding joined uncolored
uncolor_one entries c i w =
    cond (joined entries i && eqb (get_or w.coloring i uncolored) c)
    (record { coloring = set w.coloring i uncolored; queue = w.queue ++ (i ∷ []) })
    w

-- the same for the k splines from i on, in order
unfoldable pub uncolor_from : List ℕ → ℕ → ℕ → ℕ → Recoloring → Recoloring
unfolding uncolor_one
uncolor_from entries c i zero w = w
uncolor_from entries c i (suc k) w = uncolor_from entries c (suc i) k (uncolor_one entries c i w)

-- The neighbours of v that have its colour c: the upper places first, then the lower.
unfoldable pub uncolor_same_neighbors : List ℕ → ℕ → ℕ → Recoloring → Recoloring
unfolding uncolor_from
uncolor_same_neighbors entries c v w = uncolor_from entries c 0 v (uncolor_from entries c (suc v) (length w.coloring - suc v) w)

-- spline v takes the colour c, and its neighbours that have it lose it and wait
unfoldable pub force : List ℕ → ℕ → ℕ → Recoloring → Recoloring
unfolding uncolor_same_neighbors
force entries c v w = uncolor_same_neighbors entries c v (record { coloring = set w.coloring v c; queue = w.queue })

-- ---- the walk

unfoldable pub max_recolor_steps : ℕ
max_recolor_steps = 16

-- The step whose colour, step mod 3, is forced on a spline: the first, from the counter on, that does not meet the
-- colour c of a. Two steps in a row differ mod 3, so the second is the last.
unfoldable pub forced_step : Bool → ℕ → ℕ → ℕ
forced_step joined_to_a c step = cond (joined_to_a && eqb (step % 3) c) (suc step) step

-- how a walk ends: the queue is empty, or it was stopped; with the counter
pub data Walk : Type 0 where
  recolored : List ℕ → ℕ → Walk
  stopped : ℕ → Walk

-- Takes the splines off the queue, first come first served, as long as the counter is below 16. `fuel` bounds the
-- turns; `walk_fuel` is never used up. c is the colour of a, which stays.
unfoldable pub walk : ℕ → List ℕ → ℕ → ℕ → ℕ → ℕ → List ℕ → List ℕ → Walk
unfolding row joined vertex_possible_colors first_possible_color force max_recolor_steps forced_step
walk n edge_matrix a c zero step coloring queue = stopped step
walk n edge_matrix a c (suc fuel) step coloring [] = recolored coloring step
walk n edge_matrix a c (suc fuel) step coloring (i ∷ queue) =
    elim (leb max_recolor_steps step) [
      | true ↦ stopped step
      | false ↦
          let entries = row n edge_matrix i in
          let possible = vertex_possible_colors coloring entries in
          elim (eqb possible 0) [
            | false ↦ walk n edge_matrix a c fuel step (set coloring i (first_possible_color possible)) queue
            | true ↦
                let s = forced_step (joined entries a) c step in
                let w = force entries (s % 3) i (record { coloring = coloring; queue = queue }) in
                walk n edge_matrix a c fuel (suc s) w.coloring w.queue
          ]
    ]

-- at most 16 forced colours, and at most n free ones after each and before the first
unfoldable pub walk_fuel : ℕ → ℕ
walk_fuel n = 17 * suc n

-- a walk from its start on
unfoldable pub walk_from : List ℕ → ℕ → ℕ → Recoloring → Walk
unfolding walk walk_fuel
walk_from edge_matrix a c w = let n = length w.coloring in walk n edge_matrix a c (walk_fuel n) 0 w.coloring w.queue

-- where the walk of an offer starts: b takes the first of the two colours that a has not
unfoldable pub walk_start : List ℕ → List ℕ → ℕ → ℕ → Recoloring
unfolding row first_possible_color force
walk_start coloring edge_matrix a b =
    force (row (length coloring) edge_matrix b) (first_possible_color (7 - 2 ^ get_or coloring a 0)) b (record { coloring = coloring; queue = [] })

unfoldable pub recolor : List ℕ → List ℕ → ℕ → ℕ → Walk
unfolding walk_from walk_start
recolor coloring edge_matrix a b = walk_from edge_matrix a (get_or coloring a 0) (walk_start coloring edge_matrix a b)

-- ---- what the functions of the code promise each other

-- the colours and the queue as the definition has them
abbrev pub recoloring : Walker → Recoloring
recoloring w = record { coloring = w.coloring.now; queue = waits w.queue }

-- each spline of the queue is without a colour, and stands there once: it has one when the next is looked at
unfoldable pub Waiting : List ℕ → List ℕ → Type 0
unfolding uncolored
Waiting coloring [] = Unit {0}
Waiting coloring (i ∷ queue) = (get_or coloring i 0 ≡ uncolored) × Waiting (set coloring i 0) queue

-- what keeps the queue within its places
pub record Queued (w : Recoloring) : Type 0 where
  pub few : length w.coloring ≤ max_splines
  pub waits : Waiting w.coloring w.queue

-- where splines of the colour c may lose it: entries for as many splines, and a colour that is one
pub record Uncoloring (w : Recoloring) (entries : List ℕ) (c : ℕ) : Type 0 where
  pub queued : Queued w
  pub row : length entries ≡ length w.coloring
  pub color : c < 3

-- where a walk may start: the splines are as many as an edge matrix has rows, and a is one whose colour stays
pub record Walking (w : Recoloring) (n a : ℕ) : Type 0 where
  pub queued : Queued w
  pub size : n ≡ length w.coloring
  pub inside : a < length w.coloring

-- where a pair may be offered: entries for every two of at most 64 splines, two numbers of splines, and a colour of a
pub record Offerable (coloring edge_matrix : List ℕ) (a b : ℕ) : Type 0 where
  pub few : length coloring ≤ max_splines
  pub entries : length edge_matrix ≡ length coloring * length coloring
  pub first : a < length coloring
  pub second : b < length coloring
  pub color : get_or coloring a 0 < 3

-- the end of a walk, as the definition has it
abbrev pub ended : Offer → List ℕ → Walk
ended (Kept step) coloring = recolored coloring step
ended (Declined step) coloring = stopped step
