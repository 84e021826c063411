-- `recolor` meets its contract: the copy equals the colours, the first splines that wait are the definition's, and so
-- is the walk.
use mathlib.Core.Path.{◌≡◌, sym, ap, ◌∙◌}
use mathlib.Core.List.{List, []}
use Prim.Native.Nat.{ℕ, ◌-◌, ◌^◌, ◌<◌}
use native.Mathlib.Omega.{arith}
use Rattle.std.proofs.Common.{rules}
use lib.ListN.{length, get_or, set, length-set}
use Rattle.coloring.specs.Recolor.{Recoloring, row, first_possible_color, uncolor_same_neighbors, force, walk_from, walk_start, recoloring}
use Rattle.coloring.specs.Recolor.{Waiting, Uncoloring, Walking}
use Rattle.coloring.specs.Recolor as defined
use Rattle.coloring.proofs.recolor.RowLaws.{row-length}
use Rattle.coloring.proofs.recolor.FreeColorLaws.{others}
use Rattle.coloring.proofs.recolor.UncolorLaws.{same_uncolors, still_uncoloring}
use Rattle.coloring.proofs.recolor.recolor.Goals as goal
use Rattle.coloring.proofs.recolor.recolor.Goals.{After-first_possible_color-d, After-row-entries, After-uncolor_same_neighbors}

-- the start of the walk as the code makes it: in the copy, with the row cut out
start_same : (coloring edge_matrix buffer entries : List ℕ) (a b d : ℕ) → buffer ≡ coloring → entries ≡ row (length coloring) edge_matrix b
    → d ≡ first_possible_color (7 - 2 ^ get_or coloring a 0) → force entries d b (record { coloring = buffer; queue = [] }) ≡ walk_start coloring edge_matrix
    a b
unfolding walk_start
start_same coloring edge_matrix buffer entries a b d copy cut color = rw (copy, cut, color)

module _ (c : After-first_possible_color-d) where
  abbrev coloring : List ℕ
  coloring = c.args.coloring.now

  abbrev edge_matrix : List ℕ
  edge_matrix = c.args.edge_matrix.entries.now

  abbrev a : ℕ
  a = c.args.a

  abbrev b : ℕ
  b = c.args.b

  abbrev buffer : List ℕ
  buffer = c.copy_from_slice.new.self

  abbrev d : ℕ
  d = c.first_possible_color-d.result

  copy_same : buffer ≡ coloring
  copy_same = c.copy_from_slice.ensures.after

  color : d ≡ first_possible_color (7 - 2 ^ get_or coloring a 0)
  color = c.first_possible_color-d.ensures ∙ ap first_possible_color c.other_colors.ensures

  small : d < 3
  small = rw color (others (get_or coloring a 0) c.requires.offerable.color).2

  size : length (set buffer b d) ≡ length coloring
  size = length-set buffer b d ∙ ap length copy_same

module _ (c : After-row-entries) where
  abbrev color_of_row : After-first_possible_color-d
  color_of_row = (goal.at.After-row-entries c).After-first_possible_color-d

  abbrev entries : List ℕ
  entries = c.row-entries.result.now

  cut : entries ≡ row (length (coloring color_of_row)) (edge_matrix color_of_row) (b color_of_row)
  cut = rw c.requires.size at c.row-entries.ensures

  -- nobody waits yet
  ready : Uncoloring (record { coloring = set (buffer color_of_row) (b color_of_row) (d color_of_row); queue = [] }) entries (d color_of_row)
  unfolding Waiting
  ready =
      let o = c.requires.offerable in
      record {
        queued = record { few = omega (arith, o.few, size color_of_row); waits = tt };
        row =
            ap length cut
            ∙ row-length (length (coloring color_of_row)) (b color_of_row) (edge_matrix color_of_row) o.entries o.second
            ∙ sym (size color_of_row);
        color = small color_of_row;
      }

module _ (c : After-uncolor_same_neighbors) where
  abbrev color_of_waiting : After-first_possible_color-d
  color_of_waiting = (goal.at.After-uncolor_same_neighbors c).After-first_possible_color-d

  abbrev row_of_waiting : After-row-entries
  row_of_waiting = (goal.at.After-uncolor_same_neighbors c).After-row-entries

  -- b has its colour, and nobody waits
  abbrev before : Recoloring
  before = record { coloring = set (buffer color_of_waiting) (b color_of_waiting) (d color_of_waiting); queue = [] }

  abbrev begun : Recoloring
  begun = recoloring c.uncolor_same_neighbors.new.self

  moved : begun ≡ uncolor_same_neighbors (entries row_of_waiting) (d color_of_waiting) (b color_of_waiting) before
  moved = rw c.new.ensures at c.uncolor_same_neighbors.ensures.after

  started : begun ≡ walk_start (coloring color_of_waiting) (edge_matrix color_of_waiting) (a color_of_waiting) (b color_of_waiting)
  unfolding force
  started =
      moved
      ∙ start_same (coloring color_of_waiting) (edge_matrix color_of_waiting) (buffer color_of_waiting) (entries row_of_waiting)
      (a color_of_waiting) (b color_of_waiting) (d color_of_waiting) (copy_same color_of_waiting) (cut row_of_waiting) (color color_of_waiting)

  walking_size : length begun.coloring ≡ length (coloring color_of_waiting)
  walking_size =
      let lost = same_uncolors (entries row_of_waiting) (d color_of_waiting) (small color_of_waiting) (b color_of_waiting) before in
      ap (λ (r : Recoloring). length r.coloring) moved ∙ lost.size ∙ size color_of_waiting

  walking : Walking begun (length (coloring color_of_waiting)) (a color_of_waiting)
  walking =
      let o = c.requires.offerable in
      let lost = same_uncolors (entries row_of_waiting) (d color_of_waiting) (small color_of_waiting) (b color_of_waiting) before in
      record {
        queued = (still_uncoloring (ready row_of_waiting) lost moved).queued;
        size = sym walking_size;
        inside = omega (arith, walking_size, o.first);
      }

pub row-entries-requires : goal.row-entries-requires
row-entries-requires c = rw c.requires.size c.requires.offerable.second

pub uncolor_same_neighbors-requires : goal.uncolor_same_neighbors-requires
uncolor_same_neighbors-requires c =
    let r = (goal.at.uncolor_same_neighbors-requires c).After-row-entries in
    (rw c.new.ensures (ready r), omega (arith, size (color_of_row r), c.requires.offerable.second))

pub walk-requires : goal.walk-requires
walk-requires c = rw c.requires.size (walking (goal.at.walk-requires c).After-uncolor_same_neighbors)

pub returns : goal.returns
unfolding defined.recolor
returns c =
    let w = (goal.at.returns c).After-uncolor_same_neighbors in
    let k = color_of_waiting w in
    let walked = c.walk.ensures.end ∙ ap (walk_from (edge_matrix k) (a k) (get_or (coloring k) (a k) 0)) (started w) in
    search (rules, walked)
