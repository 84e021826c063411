-- The starting colours of the splines, after `color_second_degree_graph` of coloring/by_distance.rs (SCOPE, leaf 7).
use Rattle.std.specs.Prelude.{cond, List, [], ◌∷◌, ◌++◌, ℕ, zero, suc, ◌+◌, ◌%◌, eqb, length, get_or}
use Rattle.coloring.specs.Seed.{seed_extract2, seed_extract3}
use Rattle.coloring.specs.Recolor.{row, vertex_possible_colors}
use Rattle.coloring.specs.declared.seed.Draw.{Draw}

-- no draw: the colour, and the seed as it is
abbrev pub undrawn : ℕ → ℕ → Draw
undrawn seed color = record { value = color; seed = seed }

-- the colour of spline i by the set of its free colours (1 for the colour 0, 2 for 1, 4 for 2), and the seed that is
-- left
unfoldable pub starting_color : ℕ → ℕ → ℕ → Draw
starting_color possible i seed =
    let two = seed_extract2 seed in
    let three = seed_extract3 seed in
    get_or
    (undrawn seed 0
    ∷ undrawn seed 0
    ∷ undrawn seed 1
    ∷ two
    ∷ undrawn seed 2
    ∷ record { value = cond (eqb two.value 0) 2 0; seed = two.seed }
    ∷ record { value = two.value + 1; seed = two.seed }
    ∷ record { value = (three.value + i) % 3; seed = three.seed }
    ∷ [])
    possible
    (undrawn seed 0)

-- The k splines after those that have a colour. A neighbour that has none yet takes away no colour:
-- `vertex_possible_colors` ends with the colours.
unfoldable pub color_from : ℕ → List ℕ → ℕ → ℕ → List ℕ → List ℕ
unfolding starting_color row vertex_possible_colors
color_from n edge_matrix zero seed coloring = coloring
color_from n edge_matrix (suc k) seed coloring =
    let i = length coloring in
    let draw = starting_color (vertex_possible_colors coloring (row n edge_matrix i)) i seed in
    color_from n edge_matrix k draw.seed (coloring ++ draw.value ∷ [])

-- the starting colours of n splines
unfoldable pub color_second_degree_graph : ℕ → List ℕ → ℕ → List ℕ
unfolding color_from
color_second_degree_graph n edge_matrix seed = color_from n edge_matrix n seed []
