-- The answers for `color_second_degree_graph`, by the invariant of Invariants.antt.
use mathlib.Core.Path.{◌≡◌, sym, ap, ◌∙◌}
use mathlib.Core.List.{List}
use Prim.Native.Nat.{ℕ}
use native.Mathlib.Omega.{arith}
use lib.ListN.{length, take, length-set}
use lib.Seq.{length-take-le}
use Rattle.coloring.specs.Recolor.{row, vertex_possible_colors}
use Rattle.coloring.specs.SecondDegree.{starting_color}
use Rattle.coloring.proofs.recolor.RowLaws.{row-length}
use Rattle.coloring.proofs.recolor.FreeColorLaws.{possible-below}
use Rattle.coloring.proofs.second_degree.StartingLaws.{starting_below, free_enough, next, color-start, color-more, color_end}
use Rattle.coloring.proofs.second_degree.color_second_degree_graph.Goals as goal
use Rattle.coloring.proofs.second_degree.color_second_degree_graph.Goals.{After-row-entries, After-starting_color-draw}
use Rattle.coloring.proofs.second_degree.color_second_degree_graph.Goals.{After-vertex_possible_colors-possible, In-loop-i}

module _ (c : In-loop-i) where
  abbrev n : ℕ
  n = c.args.edge_matrix.n

  abbrev edge_matrix : List ℕ
  edge_matrix = c.args.edge_matrix.entries.now

  abbrev i : ℕ
  i = c.loop-i.i

  -- the splines that have their colour
  abbrev done : List ℕ
  done = take i c.loop-i.coloring

  done-size : length done ≡ i
  done-size = length-take-le i c.loop-i.coloring (omega arith)

module _ (c : After-row-entries) where
  abbrev in_loop_of_row : In-loop-i
  in_loop_of_row = (goal.at.After-row-entries c).In-loop-i

  entries-size : length c.row-entries.result.now ≡ n in_loop_of_row
  entries-size =
      ap length c.row-entries.ensures
      ∙ row-length (n in_loop_of_row) (i in_loop_of_row) (edge_matrix in_loop_of_row) c.args.edge_matrix.square c.loop-i-test.true

  part-size : length (take (i in_loop_of_row) c.row-entries.result.now) ≡ i in_loop_of_row
  part-size = length-take-le (i in_loop_of_row) c.row-entries.result.now (omega (arith, c.loop-i-test.true, entries-size))

module _ (c : After-vertex_possible_colors-possible) where
  abbrev in_loop_i : In-loop-i
  in_loop_i = (goal.at.After-vertex_possible_colors-possible c).In-loop-i

  free : c.vertex_possible_colors-possible.result ≡ vertex_possible_colors (done in_loop_i) (row (n in_loop_i) (edge_matrix in_loop_i) (i in_loop_i))
  free =
      c.vertex_possible_colors-possible.ensures
      ∙ free_enough (i in_loop_i) (done in_loop_i) c.row-entries.result.now (omega (arith, done-size in_loop_i))
      ∙ ap (vertex_possible_colors (done in_loop_i)) c.row-entries.ensures

module _ (c : After-starting_color-draw) where
  abbrev in_loop_of_draw : In-loop-i
  in_loop_of_draw = (goal.at.After-starting_color-draw c).In-loop-i

  abbrev after_vertex_possible_colors_possible : After-vertex_possible_colors-possible
  after_vertex_possible_colors_possible = (goal.at.After-starting_color-draw c).After-vertex_possible_colors-possible

  draw : c.starting_color-draw.result ≡ next (n in_loop_of_draw) (edge_matrix in_loop_of_draw) (i in_loop_of_draw) (done in_loop_of_draw) c.loop-i.rest
  draw = c.starting_color-draw.ensures ∙ ap (λ p. starting_color p (i in_loop_of_draw) c.loop-i.rest) (free after_vertex_possible_colors_possible)

pub loop-i-init : goal.loop-i-init
loop-i-init c = (omega arith, sym c.requires, color-start _ _ _)

pub slice_bounds-vertex_possible_colors-end-in-loop-i-2 : goal.slice_bounds-vertex_possible_colors-end-in-loop-i-2
slice_bounds-vertex_possible_colors-end-in-loop-i-2 c = sym (part-size c)

pub vertex_possible_colors-possible-requires : goal.vertex_possible_colors-possible-requires
vertex_possible_colors-possible-requires c =
    let r = (goal.at.vertex_possible_colors-possible-requires c).After-row-entries in
    done-size (in_loop_of_row r) ∙ sym (part-size r)

pub starting_color-draw-requires : goal.starting_color-draw-requires
starting_color-draw-requires c =
    let in_loop_i = (goal.at.starting_color-draw-requires c).In-loop-i in
    (rw (free c) (possible-below (done in_loop_i) (row (n in_loop_i) (edge_matrix in_loop_i) c.loop-i.i)), omega arith)

pub overflow_cast-coloring : goal.overflow_cast-coloring
overflow_cast-coloring c =
    let after_starting_color_draw = (goal.at.overflow_cast-coloring c).After-starting_color-draw in
    let in_loop_i = (goal.at.overflow_cast-coloring c).In-loop-i in
    rw (draw after_starting_color_draw)
    (omega (
      arith,
      starting_below (vertex_possible_colors (done in_loop_i) (row (n in_loop_i) (edge_matrix in_loop_i) (i in_loop_i)))
          (i in_loop_i) c.loop-i.rest,
    ))

pub bounds-coloring-i : goal.bounds-coloring-i
bounds-coloring-i c = omega arith

pub loop-i-preserved : goal.loop-i-preserved
loop-i-preserved c =
    let in_loop_i = (goal.at.loop-i-preserved c).In-loop-i in
    let after_starting_color_draw = (goal.at.loop-i-preserved c).After-starting_color-draw in
    let old = c.loop-i in
    let more = color-more (n in_loop_i) (edge_matrix in_loop_i) (i in_loop_i) old.rest old.coloring c.loop-i-test.true old.invariant.1 in
    (omega arith, rw length-set old.invariant.1, rw (draw after_starting_color_draw) (more ∙ old.invariant.2))

pub shape_of-coloring : goal.shape_of-coloring
shape_of-coloring c = c.loop-i.invariant.1 ∙ c.requires

pub returns : goal.returns
returns c =
    let last = c.loop-i in
    sym (color_end _ _ last.i last.rest last.coloring c.loop-i-test.false last.invariant.1) ∙ last.invariant.2
