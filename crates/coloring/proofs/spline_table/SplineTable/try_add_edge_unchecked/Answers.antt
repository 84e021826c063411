-- `try_add_edge_unchecked` meets its contract: the pair entered, and the rule's three cases.
use mathlib.Core.Path.{◌≡◌, sym, ap, ap₂, ◌∙◌}
use mathlib.Core.List.{List}
use Prim.Native.Nat.{ℕ, ◌*◌}
use native.Mathlib.Omega.{arith}
use lib.ListN.{length, set, length-set}
use Rattle.coloring.specs.Recolor.{row, vertex_possible_colors, first_possible_color}
use Rattle.coloring.specs.SplineTable.{Table, table_in, kept, outcome, walked_on}
use Rattle.coloring.proofs.recolor.RowLaws.{row-length, pair_inside}
use Rattle.coloring.proofs.recolor.FreeColorLaws.{possible-below}
use Rattle.coloring.proofs.spline_table.OfferLaws.{entered, free_of_b, SameColor, rule_differ, rule_free, rule_walk}
use Rattle.coloring.proofs.spline_table.SplineTable.try_add_edge_unchecked.Goals as goal
use Rattle.coloring.proofs.spline_table.SplineTable.try_add_edge_unchecked.Goals.{After-row, After-vertex_possible_colors-possible}

module _ (c : After-row) where
  abbrev coloring : List ℕ
  coloring = c.args.self.now.coloring.now

  abbrev table : Table
  table = table_in c.args.self.now

  abbrev n : ℕ
  n = length coloring

  abbrev a : ℕ
  a = c.args.a

  abbrev b : ℕ
  b = c.args.b

  after-size : length (entered table a b) ≡ n * n
  after-size = length-set _ _ _ ∙ length-set _ _ _ ∙ c.requires.entries

  cut : c.row.result.now ≡ row n (entered table a b) b
  cut = c.row.ensures ∙ ap₂ (λ (k : ℕ) (l : List ℕ). row k l b) (ap length c.enter_pair.ensures.colors) c.enter_pair.ensures.entered

module _ (c : After-vertex_possible_colors-possible) where
  abbrev after_row : After-row
  after_row = (goal.at.After-vertex_possible_colors-possible c).After-row

  abbrev given : Table
  given = table after_row

  same : SameColor given c.args.a c.args.b
  same = rw c.enter_pair.ensures.colors at c.if-coloring-a.false

  free : c.vertex_possible_colors-possible.result ≡ free_of_b given c.args.a c.args.b
  free = c.vertex_possible_colors-possible.ensures ∙ ap₂ vertex_possible_colors c.enter_pair.ensures.colors (cut after_row)

pub enter_pair-requires : goal.enter_pair-requires
enter_pair-requires c = pair_inside c.requires

pub returns-then-coloring-a-clause-answer : goal.returns-then-coloring-a-clause-answer
returns-then-coloring-a-clause-answer c =
    ap₂ (outcome (kept 0)) c.enter_pair.ensures.colors c.enter_pair.ensures.entered
    ∙ sym (rule_differ (table_in c.args.self.now) c.args.a c.args.b (λ e. c.if-coloring-a.true (rw c.enter_pair.ensures.colors e)))

pub vertex_possible_colors-possible-requires : goal.vertex_possible_colors-possible-requires
vertex_possible_colors-possible-requires c =
    let r = (goal.at.vertex_possible_colors-possible-requires c).After-row in
    ap length c.enter_pair.ensures.colors ∙ sym (ap length (cut r) ∙ row-length (n r) c.args.b _ (after-size r) c.requires.second)

pub first_possible_color-requires : goal.first_possible_color-requires
first_possible_color-requires c =
    let p = (goal.at.first_possible_color-requires c).After-vertex_possible_colors-possible in
    let r = after_row p in
    omega (arith, free p, possible-below (coloring r) (row (n r) (entered (table r) c.args.a c.args.b) c.args.b))

pub returns-then-possible-ne0-clause-answer : goal.returns-then-possible-ne0-clause-answer
returns-then-possible-ne0-clause-answer c =
    let p = (goal.at.returns-then-possible-ne0-clause-answer c).After-vertex_possible_colors-possible in
    let old = c.args.self.now.coloring.now in
    let color = c.first_possible_color.ensures ∙ ap first_possible_color (free p) in
    ap₂ (λ (l : List ℕ) (x : ℕ). outcome (kept 0) (set l c.args.b x) c.enter_pair.new.self.edge_matrix.now) c.enter_pair.ensures.colors color
    ∙ ap (outcome (kept 0) (set old c.args.b (first_possible_color (free_of_b (given p) c.args.a c.args.b)))) c.enter_pair.ensures.entered
    ∙ sym (rule_free (given p) c.args.a c.args.b (same p) (λ e. c.if-possible-ne0.true (free p ∙ e)))

pub add_edge_by_walk-requires : goal.add_edge_by_walk-requires
add_edge_by_walk-requires c =
    let one = c.enter_pair.ensures in
    rw one.colors (record {
      few = c.requires.few;
      entries = ap length one.entered ∙ length-set _ _ _ ∙ length-set _ _ _ ∙ c.requires.entries;
      first = c.requires.first;
      second = c.requires.second;
      color = c.requires.color;
    })

pub returns-clause-answer : goal.returns-clause-answer
returns-clause-answer c =
    let p = (goal.at.returns-clause-answer c).After-vertex_possible_colors-possible in
    c.add_edge_by_walk.ensures.answer
    ∙ ap₂ (λ (k l : List ℕ). walked_on k l c.args.a c.args.b) c.enter_pair.ensures.colors c.enter_pair.ensures.entered
    ∙ sym (rule_walk (given p) c.args.a c.args.b (same p) (sym (free p) ∙ c.if-possible-ne0.false))
