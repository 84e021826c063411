-- P1 to P10 (SCOPE, Examples) as one list, which one theorem proves. Each member is computed where its definitions
-- stand.
use Rattle.std.specs.Prelude.{◌≡◌, true, false, [], ◌∷◌, pos, negsuc}
use Rattle.std.specs.Float.{fin, binary64}
use Rattle.std.specs.Float.Ieee.{of_bits}
use Rattle.math.specs.Sqrt.{sqrt_of}
use Rattle.math.specs.SqrtExamples.{root_examples}
use Rattle.math.specs.Vector2.{new, length_of, normalized, normalize}
use Rattle.geometry.specs.EdgeSegment.{split_in_thirds}
use Rattle.geometry.specs.Examples.{n0, negative0, n1, n3, tiny, unit_lines, split_exactly, split_from_negative_zero, tiny-direction}
use Rattle.geometry.specs.declared.edge_color.EdgeColor.TheVariants.{Yellow, Magenta}
use Rattle.geometry.specs.declared.edge_segment.EdgeSegment.TheVariants.{Line}
use Rattle.coloring.specs.SplineTable.{kept, declined}
use Rattle.coloring.specs.SplineColors.{offer_splines, color_splines}
use Rattle.coloring.specs.SplineColorsExamples.{square_distances, square_colors, square_answers}
use Rattle.coloring.specs.EdgeColoring.{edge_coloring_simple, edge_coloring_ink_trap, collect_splines, edge_coloring_by_distance}
use Rattle.coloring.specs.Examples.{trichotomies, trichotomy_of_3, trichotomy_of_5, trichotomy_of_47, after_cyan, switches_of_cyan}
use Rattle.coloring.specs.Examples.{square_outline, four_edges, eighth, simple_square, ink_trap_square}
use Rattle.coloring.specs.ByDistanceExamples.{square_edges}

pub record TenExamples : Type 0 where
  -- `symmetrical_trichotomy` at all places of n = 3 and of n = 5; at the places 14, 15, 30, 31 of n = 47
  pub p1 : trichotomies 3 (0 ∷ 1 ∷ 2 ∷ []) ≡ (negsuc 0 ∷ pos 0 ∷ pos 1 ∷ [])
  pub p2 : trichotomies 5 (0 ∷ 1 ∷ 2 ∷ 3 ∷ 4 ∷ []) ≡ (negsuc 0 ∷ negsuc 0 ∷ pos 0 ∷ pos 1 ∷ pos 1 ∷ [])
  pub p3 : trichotomies 47 (14 ∷ 15 ∷ 30 ∷ 31 ∷ []) ≡ (negsuc 0 ∷ pos 0 ∷ pos 0 ∷ pos 1 ∷ [])
  -- the root of 2 is 3FF6A09E667F3BCD; of 2 ^ −1074, 2 ^ −537
  pub p4 : (sqrt_of (fin false 1 (pos 1)) ≡ of_bits binary64 0x3FF6_A09E_667F_3BCD) × (sqrt_of (fin false 1 (negsuc 1073)) ≡ fin false 1 (negsuc 536))
  -- Cyan, draw 0: Magenta; draw 1: Yellow
  pub p5 : (after_cyan 0 ≡ Magenta) × (after_cyan 1 ≡ Yellow)
  -- the square, seed 0, threshold 0.125, simple and ink trap: 5, 3, 6, 3
  pub p6 :
      ((edge_coloring_simple square_outline eighth 0 four_edges).buffers.colors ≡ (5 ∷ 3 ∷ 6 ∷ 3 ∷ []))
      × ((edge_coloring_ink_trap square_outline eighth 0 four_edges).buffers.colors ≡ (5 ∷ 3 ∷ 6 ∷ 3 ∷ []))
  -- its four splines, distance 0 beside and 1 across, seed 0: spline colours 0, 1, 2, 1; pair (0, 2) kept, (1, 3)
  -- declined with counter 16; edges 3, 6, 5, 6
  pub p7 :
      ((collect_splines square_outline eighth four_edges).buffers.colors ≡ (0 ∷ 1 ∷ 2 ∷ 3 ∷ []))
      × (color_splines 4 square_distances 0 ≡ (0 ∷ 1 ∷ 2 ∷ 1 ∷ []))
      × ((offer_splines 4 square_distances 0).pairs ≡ (record { a = 0; b = 2 } ∷ record { a = 1; b = 3 } ∷ []))
      × ((offer_splines 4 square_distances 0).ends.answers ≡ (kept 0 ∷ declined 16 ∷ []))
      × ((edge_coloring_by_distance square_outline eighth 0 square_distances four_edges).buffers.colors ≡ (3 ∷ 6 ∷ 5 ∷ 6 ∷ []))
  -- the line (0, 0) to (3, 0) splits at x = 1 and 2 exactly; a line from (−0, 0) to (3, 0) splits with first x +0
  pub p8 : split_in_thirds (Line (new n0 n0) (new n3 n0)) ≡ unit_lines
  pub p9 : split_in_thirds (Line (new negative0 n0) (new n3 n0)) ≡ unit_lines
  -- the direction (2 ^ −600, 0) has length 0, so it becomes (0, 1), a stand-in
  pub p10 : (length_of (new tiny n0) ≡ n0) × (normalize (new tiny n0) false ≡ normalized (new n0 n1) true)

pub ten_examples : TenExamples
ten_examples = record {
  p1 = trichotomy_of_3;
  p2 = trichotomy_of_5;
  p3 = trichotomy_of_47;
  p4 = root_examples;
  p5 = switches_of_cyan;
  p6 = (simple_square, ink_trap_square);
  p7 = (square_edges.0, square_colors, square_answers.0, square_answers.1, square_edges.1);
  p8 = split_exactly;
  p9 = split_from_negative_zero;
  p10 = tiny-direction;
}
