-- The unit directions of an outline's edges, for hosts that read edge by edge (SCOPE, Directions).
use Rattle.std.specs.Prelude.{ℕ, zero, suc, ◌≡◌, refl, Bool, true, false, ◌&&◌, cond, leb, eqb, Float, length, drop, get_or, Result, Ok, Err}
use Rattle.std.proofs.Common.{ap, ap₂}
use mathlib.Core.List.{List, [], ◌∷◌, map, flatten}
use Rattle.math.specs.Vector2.{normalized}
use Rattle.math.specs.declared.vector2.Normalized.{Normalized}
use Rattle.geometry.specs.EdgeSegment.{unit_directions, point_at}
use Rattle.geometry.specs.declared.edge_segment.Directions.{Directions}
use Rattle.coloring.specs.Refusal.{refusal_number}
use Rattle.coloring.specs.Lists.{over}
use Rattle.coloring.specs.Answers.{Answer, gives, refusal}
use Rattle.coloring.specs.Fill.{FillOutcome, fill_with}
use Rattle.coloring.specs.Corners.{directions_of, ends_of, ends_in, flags_between, stand_in_mark, marks_of}
use Rattle.coloring.specs.Outline.{Outline, MutBuffer, cut, contours, check_outline}
use Rattle.coloring.specs.declared.refusal.Refusal.{Refusal}
use Rattle.coloring.specs.declared.directions.Ends.{Ends}

-- ---- four places an edge: x and y of the direction in which it starts, x and y of that in which it ends

abbrev pub direction_places : Directions → List Float
direction_places d = d.start.vector.x ∷ d.start.vector.y ∷ d.end.vector.x ∷ d.end.vector.y ∷ []

unfoldable pub encode_directions : List Directions → List Float
unfolding flatten
encode_directions directions = flatten (map direction_places directions)

-- back: the vectors that four places hold, and those of n edges
abbrev pub ends_at : List Float → Ends
ends_at places = record { start = point_at places 0; end = point_at places 1 }

unfoldable pub decode_ends : ℕ → List Float → List Ends
decode_ends zero places = []
decode_ends (suc n) places = ends_at places ∷ decode_ends n (drop 4 places)

-- ---- and two marks an edge, 1 for a stand-in (`marks_of`); back, the directions of n edges

abbrev pub directions_at : List Float → List ℕ → Directions
directions_at places marks = record {
  start = normalized (point_at places 0) (eqb (get_or marks 0 0) 1);
  end = normalized (point_at places 1) (eqb (get_or marks 1 0) 1);
}

unfoldable pub decode_directions : ℕ → List Float → List ℕ → List Directions
decode_directions zero places marks = []
decode_directions (suc n) places marks = directions_at places marks ∷ decode_directions n (drop 4 places) (drop 2 marks)

-- with the marks nothing is lost; without them the vectors are still there
pub ends_again : (directions : List Directions) → decode_ends (length directions) (encode_directions directions) ≡ ends_in directions
unfolding decode_ends encode_directions
ends_again [] = refl
ends_again (d ∷ directions) = ap (λ (rest : List Ends). ends_of d ∷ rest) (ends_again directions)

mark_read : (n : Normalized) → normalized n.vector (eqb (stand_in_mark n) 1) ≡ n
mark_read n = go n.zero_length
  where
    go : (b : Bool) → normalized n.vector (eqb (cond b 1 0) 1) ≡ normalized n.vector b
    go true = refl
    go false = refl

pub decoded_again : (directions : List Directions)
    → decode_directions (length directions) (encode_directions directions) (marks_of directions) ≡ directions
unfolding decode_directions encode_directions marks_of
decoded_again [] = refl
decoded_again (d ∷ directions) =
    ap₂ (λ (here : Directions) (rest : List Directions). here ∷ rest)
    (ap₂ (λ (start end : Normalized). record { start = start; end = end }) (mark_read d.start) (mark_read d.end))
    (decoded_again directions)

-- ---- the outcome of the entry

-- how many edges there are, or the number of a refusal
abbrev pub directed_answer : Result ℕ Refusal → Answer ℕ
directed_answer (Ok edges) = gives edges
directed_answer (Err r) = refusal (refusal_number r)

-- the two buffers
pub record DirectionBuffers : Type 0 where
  pub directions : List Float
  pub stand_ins : List ℕ

abbrev pub direction_buffers : List Float → List ℕ → DirectionBuffers
direction_buffers directions stand_ins = record { directions = directions; stand_ins = stand_ins }

abbrev pub directions_fit : DirectionBuffers → DirectionBuffers → Bool
directions_fit written old =
    leb (length written.directions) (length old.directions) && leb (length written.stand_ins) (length old.stand_ins)

-- what is written, over what stood there
abbrev pub directions_over : DirectionBuffers → DirectionBuffers → DirectionBuffers
directions_over written old = direction_buffers (over written.directions old.directions) (over written.stand_ins old.stand_ins)

abbrev pub fill_directions : Outline → List Directions → DirectionBuffers → FillOutcome DirectionBuffers
fill_directions o directions old =
    let written = direction_buffers (encode_directions directions) (marks_of directions) in
    fill_with (check_outline o) (length directions) (directions_fit written old) (directions_over written old) old

-- the checks of the outline; then the directions of its edges, contour by contour
unfoldable pub edge_directions : Outline → DirectionBuffers → FillOutcome DirectionBuffers
unfolding check_outline contours encode_directions marks_of unit_directions fill_with over
edge_directions o old = fill_directions o (flatten (map directions_of (contours o))) old

-- ---- in the words of contracts

-- the two buffers at entry and at exit
abbrev pub buffers_at_entry : MutBuffer Float → MutBuffer ℕ → DirectionBuffers
buffers_at_entry directions stand_ins = direction_buffers directions.entry.now stand_ins.entry.now

abbrev pub buffers_at_exit : MutBuffer Float → MutBuffer ℕ → DirectionBuffers
buffers_at_exit directions stand_ins = direction_buffers directions.exit.now stand_ins.exit.now

-- the flags of several contours one after the other, by the directions of all their edges
abbrev pub all_flags : Float → List ℕ → List Ends → List Bool
all_flags threshold lengths ends = flatten (map (flags_between threshold) (cut lengths ends))
