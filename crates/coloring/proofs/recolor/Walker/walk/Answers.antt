-- The answers for `walk`, by the invariants of Invariants.antt.
use mathlib.Core.Path.{◌≡◌, refl, sym, ap, ◌∙◌}
use mathlib.Core.Bool.{true, false, ◌&&◌}
use mathlib.Core.List.{List, [], ◌∷◌}
use Prim.Native.Nat.{ℕ, suc, ◌<◌, ◌+◌, ◌%◌}
use native.Mathlib.Omega.{arith}
use native.Mathlib.Numerals.{add-one}
use lib.Dec.{eqb}
use lib.ListN.{length, length-set}
use borrow.Author.Tests.{not-true, not-false}
use Rattle.coloring.specs.Queue.{waits}
use Rattle.coloring.specs.Recolor.{joined, forced_step, row, force, vertex_possible_colors, first_possible_color, recoloring, walk_from}
use Rattle.coloring.proofs.recolor.RowLaws.{row-length}
use Rattle.coloring.proofs.recolor.FreeColorLaws.{possible-below, forced-here, forced-next, step_rises}
use Rattle.coloring.proofs.recolor.WalkLaws.{WalkInvariant, left_free, free_of, step_of, forced, walk_begins, first-rest, none_first, walk-done}
use Rattle.coloring.proofs.recolor.WalkLaws.{walk_stops, walk_first, walk_free, walk_uncolors, walk_forces, less_forced, forced_same}
use Rattle.coloring.proofs.recolor.Walker.walk.Goals as goal
use Rattle.coloring.proofs.recolor.Walker.walk.Goals.{In-Some, After-row-entries, After-vertex_possible_colors-possible}
use Rattle.coloring.proofs.recolor.Walker.walk.Goals.{Joined-joined, else-joined, then-joined}
use Rattle.coloring.proofs.recolor.Walker.walk.Goals.{After-uncolor_same_neighbors}

-- a spline is taken off the queue
module _ (c : In-Some) where
  abbrev n : ℕ
  n = c.args.edge_matrix.n

  abbrev edge_matrix : List ℕ
  edge_matrix = c.args.edge_matrix.entries.now

  abbrev spline : ℕ
  spline = c.in-Some.spline

  abbrev queue : List ℕ
  queue = waits c.pop_front.new.self

  taken : waits c.walk.self.queue ≡ spline ∷ queue
  taken =
      first-rest (waits c.walk.self.queue) spline c.in-Some.ensures.first ∙ ap (λ (l : List ℕ). spline ∷ l) (sym c.pop_front.ensures.rest)

  turn : WalkInvariant n edge_matrix c.args.a c.args.c (walk_from edge_matrix c.args.a c.args.c (recoloring c.args.self.now))
      c.walk.self.coloring.now (spline ∷ queue) c.walk.step
  turn = rw taken at c.walk.invariant.0

  first : spline < n
  first = walk_first turn

module _ (c : After-row-entries) where
  abbrev in_some : In-Some
  in_some = (goal.at.After-row-entries c).In-Some

  abbrev entries : List ℕ
  entries = c.row-entries.result.now

  cut : entries ≡ row (n in_some) (edge_matrix in_some) (spline in_some)
  cut = c.row-entries.ensures

  cut-size : length entries ≡ n in_some
  cut-size = ap length cut ∙ row-length (n in_some) (spline in_some) (edge_matrix in_some) c.args.edge_matrix.square (first in_some)

  -- the step whose colour is forced, by the row as the code has it
  abbrev step : ℕ
  step = forced_step (joined entries c.args.a) c.args.c c.walk.step

module _ (c : After-vertex_possible_colors-possible) where
  abbrev some_of_possible : In-Some
  some_of_possible = (goal.at.After-vertex_possible_colors-possible c).In-Some

  abbrev row_of_possible : After-row-entries
  row_of_possible = (goal.at.After-vertex_possible_colors-possible c).After-row-entries

  abbrev possible : ℕ
  possible = free_of (n some_of_possible) (edge_matrix some_of_possible) c.walk.self.coloring.now (spline some_of_possible)

  free : c.vertex_possible_colors-possible.result ≡ possible
  free = c.vertex_possible_colors-possible.ensures ∙ ap (vertex_possible_colors c.walk.self.coloring.now) (cut row_of_possible)

-- the test of the inner loop: whether the colour meets a's
module _ (c : Joined-joined) where
  abbrev row_of_joined : After-row-entries
  row_of_joined = (goal.at.Joined-joined c).After-row-entries

  met : c.if-joined.met ≡ (joined (entries row_of_joined) c.args.a && eqb (c.loop-met.step % 3) c.args.c)
  unfolding joined
  met =
      elim c.if-joined.branch [
        | then-joined w ↦ w.met-is ∙ sym (rw w.if-joined.true-raw)
        | else-joined w ↦ w.met-is ∙ w.if-joined.false-raw ∙ sym (rw w.if-joined.false-raw)
      ]

  -- the loop is left at the forced step
  broke : c.if-joined.met ≡ false → c.loop-met.step ≡ step row_of_joined
  unfolding joined
  broke e = sym (forced-here (joined (entries row_of_joined) c.args.a) c.args.c c.loop-met.step (sym met ∙ e)) ∙ c.loop-met.invariant.1

  -- else the next step is the forced one
  next : c.if-joined.met ≡ true
      → (step row_of_joined ≡ suc c.loop-met.step)
      × (forced_step (joined (entries row_of_joined) c.args.a) c.args.c (c.loop-met.step + 1) ≡ step row_of_joined)
  unfolding joined
  next e =
      let r = forced-next (joined (entries row_of_joined) c.args.a) c.args.c c.loop-met.step (sym met ∙ e) in
      let same : step row_of_joined ≡ suc c.loop-met.step = sym c.loop-met.invariant.1 ∙ r.0 in
      (same, r.1 ∙ sym same)

module _ (c : After-uncolor_same_neighbors) where
  abbrev some_of_forced : In-Some
  some_of_forced = (goal.at.After-uncolor_same_neighbors c).In-Some

  abbrev row_of_forced : After-row-entries
  row_of_forced = (goal.at.After-uncolor_same_neighbors c).After-row-entries

  abbrev possible_of_forced : After-vertex_possible_colors-possible
  possible_of_forced = (goal.at.After-uncolor_same_neighbors c).After-vertex_possible_colors-possible

  abbrev forced-step : ℕ
  forced-step = step_of (n some_of_forced) (edge_matrix some_of_forced) c.args.a c.args.c (spline some_of_forced) c.walk.step

  reached : c.loop-met.step ≡ forced-step
  reached =
      broke (goal.at.After-uncolor_same_neighbors c).Joined-joined (not-true _ c.if-not-met.true-raw)
      ∙ ap (λ (l : List ℕ). forced_step (joined l c.args.a) c.args.c c.walk.step) (cut row_of_forced)

  next-step : c.loop-met.step + 1 ≡ suc forced-step
  next-step = add-one c.loop-met.step ∙ ap suc reached

  none : possible possible_of_forced ≡ 0
  none = sym (free possible_of_forced) ∙ c.if-possible-ne0.false

  moved : recoloring c.uncolor_same_neighbors.new.self
      ≡ forced (n some_of_forced) (edge_matrix some_of_forced) (spline some_of_forced) (forced-step % 3) c.walk.self.coloring.now (queue some_of_forced)
  unfolding force
  moved =
      c.uncolor_same_neighbors.ensures.after
      ∙ forced_same (n some_of_forced) (edge_matrix some_of_forced) (spline some_of_forced) c.walk.self.coloring.now (queue some_of_forced)
      (entries row_of_forced) forced-step c.loop-met.step (cut row_of_forced) reached

pub walk-init : goal.walk-init
walk-init c = (walk_begins c.args.a c.args.c c.requires, refl)

pub returns-then-step-ge-MAX_RECOLOR_STEPS-clause-end : goal.returns-then-step-ge-MAX_RECOLOR_STEPS-clause-end
returns-then-step-ge-MAX_RECOLOR_STEPS-clause-end c =
    walk_stops (turn (goal.at.returns-then-step-ge-MAX_RECOLOR_STEPS-clause-end c).In-Some) c.if-step-ge-MAX_RECOLOR_STEPS.true

pub row-entries-requires : goal.row-entries-requires
row-entries-requires c = first (goal.at.row-entries-requires c).In-Some

pub vertex_possible_colors-possible-requires : goal.vertex_possible_colors-possible-requires
vertex_possible_colors-possible-requires c =
    c.walk.invariant.0.going.size ∙ sym (cut-size (goal.at.vertex_possible_colors-possible-requires c).After-row-entries)

pub first_possible_color-requires : goal.first_possible_color-requires
first_possible_color-requires c =
    let p = (goal.at.first_possible_color-requires c).After-vertex_possible_colors-possible in
    let s = some_of_possible p in
    omega (arith, free p, possible-below c.walk.self.coloring.now (row (n s) (edge_matrix s) (spline s)))

pub bounds-coloring-i : goal.bounds-coloring-i
bounds-coloring-i c = omega (arith, first (goal.at.bounds-coloring-i c).In-Some, c.walk.invariant.0.going.size)

pub walk-smaller-then-possible-ne0 : goal.walk-smaller-then-possible-ne0
walk-smaller-then-possible-ne0 c =
    let s = (goal.at.walk-smaller-then-possible-ne0 c).In-Some in
    left_free (n s) c.walk.step (length (queue s)) (length (waits c.walk.self.queue)) (omega (arith, ap length (taken s)))

pub walk-preserved-then-possible-ne0 : goal.walk-preserved-then-possible-ne0
walk-preserved-then-possible-ne0 c =
    let p = (goal.at.walk-preserved-then-possible-ne0 c).After-vertex_possible_colors-possible in
    let color = c.first_possible_color.ensures ∙ ap first_possible_color (free p) in
    let turned = walk_free (turn (some_of_possible p)) c.if-step-ge-MAX_RECOLOR_STEPS.false (λ e. c.if-possible-ne0.true (free p ∙ e)) in
    rw color (turned, c.walk.invariant.1)

pub bounds-entries-a : goal.bounds-entries-a
bounds-entries-a c = omega (arith, cut-size (goal.at.bounds-entries-a c).After-row-entries, c.requires.size, c.requires.inside)

pub loop-met-init : goal.loop-met-init
unfolding joined
loop-met-init c = ((step_rises _ _ _).0, refl)

pub overflow_add-step : goal.overflow_add-step
unfolding joined
overflow_add-step c =
    omega (
      arith,
      c.loop-met.invariant.0,
      (step_rises (joined (entries (goal.at.overflow_add-step c).After-row-entries) c.args.a) c.args.c c.walk.step).1,
      c.if-step-ge-MAX_RECOLOR_STEPS.false,
    )

pub loop-met-smaller : goal.loop-met-smaller
unfolding joined
loop-met-smaller c = omega (arith, (next (goal.at.loop-met-smaller c).Joined-joined (not-false _ c.if-not-met.false-raw)).0)

pub loop-met-preserved : goal.loop-met-preserved
unfolding joined
loop-met-preserved c =
    let r = next (goal.at.loop-met-preserved c).Joined-joined (not-false _ c.if-not-met.false-raw) in
    (omega (arith, r.0), r.1)

pub bounds-coloring-i-in-walk : goal.bounds-coloring-i-in-walk
bounds-coloring-i-in-walk c = omega (arith, first (goal.at.bounds-coloring-i-in-walk c).In-Some, c.walk.invariant.0.going.size)

pub uncolor_same_neighbors-requires : goal.uncolor_same_neighbors-requires
uncolor_same_neighbors-requires c =
    let s = (goal.at.uncolor_same_neighbors-requires c).In-Some in
    let r = (goal.at.uncolor_same_neighbors-requires c).After-row-entries in (
      rw (cut r) (walk_uncolors (turn s) c.args.edge_matrix.square (c.loop-met.step % 3) (omega arith)),
      rw length-set (omega (arith, first s, c.walk.invariant.0.going.size)),
    )

pub walk-smaller : goal.walk-smaller
walk-smaller c =
    let f = (goal.at.walk-smaller c).After-uncolor_same_neighbors in
    let s = some_of_forced f in
    rw (next-step f, taken s) (less_forced (turn s) c.if-step-ge-MAX_RECOLOR_STEPS.false (none f)
    (recoloring c.uncolor_same_neighbors.new.self) (moved f))

pub walk-preserved : goal.walk-preserved
walk-preserved c =
    let f = (goal.at.walk-preserved c).After-uncolor_same_neighbors in
    let turned =
    walk_forces (turn (some_of_forced f)) c.if-step-ge-MAX_RECOLOR_STEPS.false (none f) (recoloring c.uncolor_same_neighbors.new.self) (moved f) in
    rw (next-step f) (turned, c.uncolor_same_neighbors.ensures.same ∙ c.walk.invariant.1)

pub returns-in_default-clause-end : goal.returns-in_default-clause-end
returns-in_default-clause-end c =
    let empty : waits c.walk.self.queue ≡ [] = none_first (waits c.walk.self.queue) c.in_default.ensures.first in
    walk-done (rw empty at c.walk.invariant.0)
