-- Worked examples: P1 to P3, P5 and P6 (SCOPE, Examples), and others that refute wrong colourings; all computed from
-- the definitions.
use Rattle.std.specs.Prelude.{ℕ, ◌*◌, ◌≡◌, refl, Bool, true, false, ℤ, pos, negsuc, replicate, Float}
use mathlib.Core.List.{List, [], ◌∷◌, ◌++◌, map, flatten}
use Rattle.std.specs.Float.Ieee as Ieee
use Rattle.std.specs.Float.{fin}
use Rattle.std.specs.Float.Ieee.{of_bits}
use Rattle.math.specs.Scalar.{f0, f1}
use Rattle.math.specs.Sqrt.{sqrt_of}
use Rattle.math.specs.Vector2.{add, sub, mul_scalar, div_scalar, dot, cross, squared_length, length_of, normalize}
use Rattle.geometry.specs.EdgeSegment.{vmix, point, direction, to_stored, from_stored}
use Rattle.geometry.specs.declared.edge_color.EdgeColor.{EdgeColor}
use Rattle.geometry.specs.declared.edge_color.EdgeColor.TheVariants.{Yellow, Magenta, Cyan}
use Rattle.geometry.specs.declared.edge_segment.EdgeSegment.{EdgeSegment}
use Rattle.coloring.specs.Answers.{Answer, gives, refusal, all_pass, first_refusal}
use Rattle.coloring.specs.declared.settings.Division.TheVariants.{Source}
use Rattle.coloring.specs.Trichotomy.{symmetrical_trichotomy}
use Rattle.coloring.specs.Switching.{switch_color, switch_color_banned}
use Rattle.coloring.specs.Corners.{corner_count, first_corner}
use Rattle.coloring.specs.Layout.{thirds, layout}
use Rattle.coloring.specs.Teardrop.{runs}
use Rattle.coloring.specs.Splines.{paint}
use Rattle.coloring.specs.InkTrap.{corner_at, mark_minors}
use Rattle.coloring.specs.Outline.{Outline, Result, outline, result, Outcome, outcome, check}
use Rattle.coloring.specs.EdgeColoring.{edge_coloring, edge_coloring_simple, edge_coloring_ink_trap}

-- ---- P1 to P3: the rule at several places of n

abbrev pub trichotomies : ℕ → List ℕ → List ℤ
trichotomies n places = map (λ p. symmetrical_trichotomy p n) places

pub trichotomy_of_3 : trichotomies 3 (0 ∷ 1 ∷ 2 ∷ []) ≡ (negsuc 0 ∷ pos 0 ∷ pos 1 ∷ [])
unfolding symmetrical_trichotomy
trichotomy_of_3 = refl

pub trichotomy_of_5 : trichotomies 5 (0 ∷ 1 ∷ 2 ∷ 3 ∷ 4 ∷ []) ≡ (negsuc 0 ∷ negsuc 0 ∷ pos 0 ∷ pos 1 ∷ pos 1 ∷ [])
unfolding symmetrical_trichotomy
trichotomy_of_5 = refl

-- the source's tie: 15 places of -1 and 16 of 1; there is one more of 1 at every n with n - 1 a multiple of 46
pub trichotomy_of_47 : trichotomies 47 (14 ∷ 15 ∷ 30 ∷ 31 ∷ []) ≡ (negsuc 0 ∷ pos 0 ∷ pos 0 ∷ pos 1 ∷ [])
unfolding symmetrical_trichotomy
trichotomy_of_47 = refl

-- ---- P5: the colour after Cyan, by the draws 0 and 1

abbrev pub after_cyan : ℕ → EdgeColor
after_cyan seed = (switch_color (record { color = Cyan; seed = seed })).color

pub switches_of_cyan : (after_cyan 0 ≡ Magenta) × (after_cyan 1 ≡ Yellow)
unfolding switch_color
switches_of_cyan = (refl, refl)

-- refutes a switch that draws where the banned rule fires: Yellow and Magenta share red, so Cyan follows, and the seed
-- stays
pub banned_without_draw : switch_color_banned Magenta (record { color = Yellow; seed = 5 }) ≡ record { color = Cyan; seed = 5 }
unfolding switch_color_banned
banned_without_draw = refl

-- ---- P6: the square (0,0) (1,0) (1,1) (0,1) of lines, seed 0, threshold 0.125

abbrev line_stored : Float → Float → Float → Float → List Float
line_stored x0 y0 x1 y1 = x0 ∷ y0 ∷ x1 ∷ y1 ∷ f0 ∷ f0 ∷ f0 ∷ f0 ∷ []

-- so many squares, a contour each
unfoldable pub squares : ℕ → Outline
squares n =
    outline (replicate n 4) (replicate (4 * n) 1)
    (flatten (replicate n (line_stored f0 f0 f1 f0 ++ line_stored f1 f0 f1 f1 ++ line_stored f1 f1 f0 f1 ++ line_stored f0 f1 f0 f0)))

-- buffers for their result, and so many colours
abbrev room : ℕ → List ℕ → Result
room n colors = result (replicate n 9) (replicate (4 * n) 9) (replicate (32 * n) f1) colors

unfoldable pub square_outline : Outline
unfolding squares
square_outline = squares 1

abbrev pub four_edges : Result
four_edges = room 1 (9 ∷ 9 ∷ 9 ∷ 9 ∷ [])

abbrev pub eighth : Float
eighth = fin false 1 (negsuc 2)

pub simple_square : (edge_coloring_simple square_outline eighth 0 four_edges).buffers.colors ≡ (5 ∷ 3 ∷ 6 ∷ 3 ∷ [])
unfolding square_outline edge_coloring corner_count first_corner direction sub dot cross div_scalar squared_length length_of normalize
    sqrt_of to_stored from_stored Ieee.add Ieee.sub Ieee.mul Ieee.div Ieee.neg Ieee.ne Ieee.le Ieee.lt Ieee.of_bits
simple_square = refl

pub ink_trap_square : (edge_coloring_ink_trap square_outline eighth 0 four_edges).buffers.colors ≡ (5 ∷ 3 ∷ 6 ∷ 3 ∷ [])
unfolding square_outline edge_coloring corner_count first_corner direction point vmix add sub mul_scalar dot cross div_scalar squared_length length_of normalize
    sqrt_of to_stored from_stored Ieee.add Ieee.sub Ieee.mul Ieee.div Ieee.neg Ieee.ne Ieee.le Ieee.lt Ieee.of_bits
ink_trap_square = refl

-- refutes one that colours the first contour only, or begins each with a new pen
pub two-squares : (edge_coloring_simple (squares 2) eighth 0 (room 2 (replicate 8 9))).buffers.colors ≡ (5 ∷ 3 ∷ 6 ∷ 3 ∷ 6 ∷ 5 ∷ 3 ∷ 5 ∷ [])
unfolding squares edge_coloring corner_count first_corner direction sub dot cross div_scalar squared_length length_of normalize
    sqrt_of to_stored from_stored Ieee.add Ieee.sub Ieee.mul Ieee.div Ieee.neg Ieee.ne Ieee.le Ieee.lt Ieee.of_bits
two-squares = refl

-- the square into buffers with room for so many colours
abbrev into : List ℕ → Outcome
into colors = edge_coloring_simple square_outline eighth 0 (room 1 colors)

-- refutes one that refuses a result that fits exactly, or writes beyond it
pub exactly_fits :
    ((into (9 ∷ 9 ∷ 9 ∷ 9 ∷ 8 ∷ [])).answer ≡ gives (record { contours = 1; edges = 4; splines = 4; stand_ins = 0 }))
    × ((into (9 ∷ 9 ∷ 9 ∷ 9 ∷ 8 ∷ [])).buffers.colors ≡ (5 ∷ 3 ∷ 6 ∷ 3 ∷ 8 ∷ []))
unfolding square_outline edge_coloring corner_count first_corner direction sub dot cross div_scalar squared_length length_of normalize
    sqrt_of to_stored from_stored Ieee.add Ieee.sub Ieee.mul Ieee.div Ieee.neg Ieee.ne Ieee.le Ieee.lt Ieee.of_bits
exactly_fits = (refl, refl)

-- refutes one that writes before it refuses
pub one-short : into (9 ∷ 9 ∷ 9 ∷ []) ≡ outcome (refusal 11) (room 1 (9 ∷ 9 ∷ 9 ∷ []))
unfolding square_outline edge_coloring corner_count first_corner direction sub dot cross div_scalar squared_length length_of normalize
    sqrt_of to_stored from_stored Ieee.add Ieee.sub Ieee.mul Ieee.div Ieee.neg Ieee.ne Ieee.le Ieee.lt Ieee.of_bits
one-short = refl

-- ---- the refusals of an outline: each has the fault of its number, and the one of the next

abbrev refused : List ℕ → List ℕ → List Float → Float → Answer Unit
refused lengths kinds points threshold = first_refusal (check (outline lengths kinds points) threshold)

-- refutes one that tests in another order
pub outline_refusals :
    (refused (257 ∷ []) [] [] f0 ≡ refusal 4)
    × (refused (1 ∷ []) (0 ∷ []) [] f0 ≡ refusal 8)
    × (refused (1 ∷ []) (0 ∷ []) (replicate 8 Ieee.nan) f0 ≡ refusal 5)
    × (refused (1 ∷ []) (1 ∷ []) (replicate 8 Ieee.nan) Ieee.nan ≡ refusal 7)
    × (refused [] [] [] Ieee.nan ≡ refusal 6)
unfolding first_refusal check Ieee.neg Ieee.le Ieee.lt Ieee.of_bits
outline_refusals = (refl, refl, refl, refl, refl)

-- refutes one that refuses always, or looks at places that a line does not use
pub unused_ignored : refused (1 ∷ []) (1 ∷ []) (f0 ∷ f0 ∷ f1 ∷ f0 ∷ replicate 4 Ieee.nan) f1 ≡ all_pass
unfolding first_refusal check Ieee.neg Ieee.le Ieee.lt Ieee.of_bits
unused_ignored = refl

-- ---- teardrops

-- of a split contour each run has a third of the edges, as the source lists them
pub split_runs : (runs {A = ℕ} Source 1 2 3 3 ≡ (1 ∷ 2 ∷ 3 ∷ [])) × (runs {A = ℕ} Source 1 2 3 6 ≡ (1 ∷ 1 ∷ 2 ∷ 2 ∷ 3 ∷ 3 ∷ []))
unfolding runs
split_runs = (refl, refl)

-- refutes a split that starts at the first edge where the corner is at the second
pub split_from_the_corner : (e f : EdgeSegment)
    → layout (record { edges = e ∷ f ∷ []; corners = false ∷ true ∷ [] })
    ≡ record { edges = thirds f ++ thirds e; corners = true ∷ false ∷ false ∷ false ∷ false ∷ false ∷ [] }
unfolding layout corner_count first_corner
split_from_the_corner e f = refl

-- refutes a teardrop that starts at the first edge: three edges, the corner at the second
pub teardrop_from_the_corner : paint {A = ℕ} Source 9 (1 ∷ 2 ∷ []) (false ∷ true ∷ false ∷ []) ≡ (2 ∷ 1 ∷ 9 ∷ [])
unfolding paint corner_count first_corner
teardrop_from_the_corner = refl

-- ---- splines

-- refutes one that begins a spline at the first edge: what stands before the first corner belongs to the last spline
pub spread-around : paint {A = ℕ} Source 9 (1 ∷ 2 ∷ []) (false ∷ true ∷ false ∷ true ∷ []) ≡ (2 ∷ 1 ∷ 1 ∷ 2 ∷ [])
unfolding paint corner_count first_corner
spread-around = refl

-- ---- ink traps

abbrev minors : List ℕ → List Bool
minors lengths = map (λ k. k.minor) (mark_minors (record { corners = map (λ n. corner_at 0 (fin false n (pos 0))) lengths; spline_length = f0 }))

-- refutes minor corners among three
pub minors_only_among_four : (minors (3 ∷ 1 ∷ 3 ∷ []) ≡ (false ∷ false ∷ false ∷ [])) × (minors (3 ∷ 1 ∷ 3 ∷ 3 ∷ []) ≡ (true ∷ false ∷ false ∷ false ∷ []))
unfolding mark_minors Ieee.add Ieee.lt Ieee.of_bits
minors_only_among_four = (refl, refl)
