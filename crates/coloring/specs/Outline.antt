-- Outline buffers and the contours that they stand for, both ways, and the checks of an outline (SCOPE, Buffers and
-- Refusals).
use Rattle.std.specs.Prelude.{ℕ, suc, ◌+◌, ◌-◌, ◌*◌, ◌≤◌, ◌≡◌, refl, Bool, true, false, ◌&&◌, length, take, drop, leb, eqb, pos, Float, Ok, Err}
use Rattle.std.specs.Prelude as Prelude
use Rattle.std.specs.Borrow.{Bor, MutBor}
use denote.Triple.Both.{Both}
use mathlib.Core.List.{List, [], ◌∷◌, ◌++◌, map, flatten}
use Rattle.std.specs.Float.Ieee as Ieee
use Rattle.std.specs.Float.{fin, binary64}
use Rattle.std.specs.Float.Ieee.{of_bits}
use Rattle.math.specs.Scalar.{f1}
use Rattle.math.specs.Vector2.{zero_vector}
use Rattle.geometry.specs.EdgeSegment.{to_stored, DecodedAnswer, edge, refused, from_stored}
use Rattle.geometry.specs.declared.edge_segment.EdgeSegment.{EdgeSegment}
use Rattle.geometry.specs.declared.edge_segment.EdgeSegment.TheVariants.{Line}
use Rattle.coloring.specs.Refusal.{refusal_number}
use Rattle.coloring.specs.Answers.{Answer, gives, refusal, Check, unless, in_order}
use Rattle.std.specs.List.{list_all}
use Rattle.coloring.specs.Lists.{over, over_from}
use Rattle.coloring.specs.declared.outline.Counts.{Counts}
use Rattle.coloring.specs.declared.outline.OutlineBuffers.{OutlineBuffers}
use Rattle.coloring.specs.declared.outline.ResultBuffers.{ResultBuffers}
use Rattle.coloring.specs.declared.refusal.Refusal.{Refusal}
use Rattle.coloring.specs.Places.{total}
use Rattle.coloring.specs.Limits.{max_contours, max_edges}
use Rattle.coloring.specs.Corners.{Cornered}

-- an outline's three buffers: contour lengths, the kind of each edge, eight point places an edge
pub record Outline : Type 0 where
  pub lengths : List ℕ
  pub kinds : List ℕ
  pub points : List Float

-- ---- from buffers to contours

-- a list cut into pieces of the given lengths
unfoldable pub cut : {A : Type 0} → List ℕ → List A → List (List A)
cut [] xs = []
cut (n ∷ lengths) xs = take n xs ∷ cut lengths (drop n xs)

-- an edge to stand where there is none
abbrev pub any_edge : EdgeSegment
any_edge = Line zero_vector zero_vector

abbrev pub decoded : DecodedAnswer → EdgeSegment
decoded (edge e) = e
decoded (refused number) = any_edge

-- the edge of a kind and its eight places; the checks leave only known kinds
unfoldable pub edge_stored : ℕ → List Float → EdgeSegment
edge_stored kind places = decoded (from_stored kind places)

-- the edges of the kinds, each from its eight places
unfoldable pub edges_of : List ℕ → List Float → List EdgeSegment
unfolding edge_stored
edges_of [] points = []
edges_of (kind ∷ kinds) points = edge_stored kind (take 8 points) ∷ edges_of kinds (drop 8 points)

unfoldable pub contours : Outline → List (List EdgeSegment)
unfolding cut edges_of
contours o = cut o.lengths (edges_of o.kinds o.points)

-- ---- from coloured contours to the four result buffers

-- an edge's kind and its eight places, unused ones +0
abbrev pub kind_stored : EdgeSegment → ℕ
kind_stored e = (to_stored e).kind

abbrev pub places_stored : EdgeSegment → List Float
places_stored e = (to_stored e).points

-- the four buffers that a result goes to
pub record Result : Type 0 where
  pub lengths : List ℕ
  pub kinds : List ℕ
  pub points : List Float
  pub colors : List ℕ

-- the edges of each contour, and a byte for each edge: its colour, or what else a pass gives it
unfoldable pub encode : List (List EdgeSegment) → List (List ℕ) → Result
unfolding flatten
encode edges bytes =
    record {
      lengths = map (λ (contour : List EdgeSegment). length contour) edges;
      kinds = map kind_stored (flatten edges);
      points = flatten (map places_stored (flatten edges));
      colors = flatten bytes;
    }

-- ---- the checks, in the order of SCOPE, Refusals

abbrev pub known_kind : ℕ → Bool
known_kind kind = leb 1 kind && leb kind 3

-- a number between two others, the ends allowed; a NaN is between none
abbrev pub between : Float → Float → Float → Bool
between low x high = Ieee.le low x && Ieee.le x high

-- 1,048,576, by its bit pattern
abbrev pub max_coordinate : Float
max_coordinate = of_bits binary64 0x4130_0000_0000_0000

pub max-coordinate : max_coordinate ≡ fin false 1 (pos 20)
unfolding of_bits
max-coordinate = refl

-- a coordinate within the range
abbrev pub in_range : Float → Bool
in_range x = between (Ieee.neg max_coordinate) x max_coordinate

-- the places that an edge of a kind uses: two a control point
abbrev pub used_places : ℕ → ℕ
used_places kind = 2 * suc kind

-- each used place of each edge is a coordinate within the range
unfoldable pub coordinates_fit : List ℕ → List Float → Bool
coordinates_fit [] points = true
coordinates_fit (kind ∷ kinds) points =
    list_all in_range (take (used_places kind) points) && coordinates_fit kinds (drop 8 points)

-- of an outline alone
unfoldable pub check_outline : Outline → List Check
unfolding total coordinates_fit
check_outline o =
    let edges = total o.lengths in
    unless 4 (leb (length o.lengths) max_contours && leb edges max_edges)
    ∷ unless 8 (eqb (length o.kinds) edges && eqb (length o.points) (8 * edges))
    ∷ unless 5 (list_all known_kind o.kinds)
    ∷ unless 7 (coordinates_fit o.kinds o.points)
    ∷ []

-- and with a threshold
unfoldable pub check : Outline → Float → List Check
unfolding check_outline
check o threshold = check_outline o ++ (unless 6 (between (Ieee.neg f1) threshold f1) ∷ [])

-- ---- what a colouring does to the result buffers

-- the answer, and the four buffers at exit
pub record Outcome : Type 0 where
  pub answer : Answer Counts
  pub buffers : Result

abbrev pub outcome : Answer Counts → Result → Outcome
outcome answer buffers = record { answer = answer; buffers = buffers }

-- what a colouring answers: the contours, edges and splines of the result and the stand-ins of the outline, or the
-- number of a refusal
abbrev pub colored_answer : Prelude.Result Counts Refusal → Answer Counts
colored_answer (Ok counts) = gives counts
colored_answer (Err r) = refusal (refusal_number r)

-- whether a result is no longer than its buffers
unfoldable pub result_fits : Result → Result → Bool
result_fits written old =
    leb (length written.lengths) (length old.lengths)
    && leb (length written.kinds) (length old.kinds)
    && leb (length written.points) (length old.points)
    && leb (length written.colors) (length old.colors)

-- a result, written over what stood there
abbrev pub over_result : Result → Result → Result
over_result written old =
    record {
      lengths = over written.lengths old.lengths;
      kinds = over written.kinds old.kinds;
      points = over written.points old.points;
      colors = over written.colors old.colors;
    }

unfoldable pub delivered : Counts → Result → Result → Outcome
unfolding over
delivered counts written old = outcome (gives counts) (over_result written old)

-- The first refusal of the checks, and 11 last, where the result would not fit, with the buffers as they came; or the
-- result.
unfoldable pub deliver : List Check → Counts → Result → Result → Outcome
unfolding in_order result_fits delivered
deliver checks counts written old =
    in_order (checks ++ (unless 11 (result_fits written old) ∷ [])) (λ number. outcome (refusal number) old) (delivered counts written old)

-- ---- in the words of contracts

-- the buffers of an outline, and those of a result
abbrev pub outline : List ℕ → List ℕ → List Float → Outline
outline lengths kinds points = record { lengths = lengths; kinds = kinds; points = points }

abbrev pub result : List ℕ → List ℕ → List Float → List ℕ → Result
result lengths kinds points colors = record { lengths = lengths; kinds = kinds; points = points; colors = colors }

-- a buffer that a function reads, with what it holds at entry and at exit
abbrev pub Buffer : Type 0 → Type 0
Buffer A = Both (Bor (List A)) (Bor (List A))

-- and one that it writes
abbrev pub MutBuffer : Type 0 → Type 0
MutBuffer A = Both (MutBor (List A)) (MutBor (List A))

-- of buffers that are passed one by one: the outline that is given, and the four result buffers at entry and at exit
abbrev pub given : Buffer ℕ → Buffer ℕ → Buffer Float → Outline
given lengths kinds points = outline lengths.entry.now kinds.entry.now points.entry.now

abbrev pub at_entry : MutBuffer ℕ → MutBuffer ℕ → MutBuffer Float → MutBuffer ℕ → Result
at_entry lengths kinds points colors = result lengths.entry.now kinds.entry.now points.entry.now colors.entry.now

abbrev pub at_exit : MutBuffer ℕ → MutBuffer ℕ → MutBuffer Float → MutBuffer ℕ → Result
at_exit lengths kinds points colors = result lengths.exit.now kinds.exit.now points.exit.now colors.exit.now

-- of buffers that are passed together
abbrev pub outline_in : OutlineBuffers → Outline
outline_in o = outline o.lengths.now o.kinds.now o.points.now

abbrev pub result_in : ResultBuffers → Result
result_in out = result out.lengths.now out.kinds.now out.points.now out.colors.now

-- the four references lead where they led, to as many places
pub record SameBuffers (old new : ResultBuffers) : Type 0 where
  pub lengths_same : new.lengths.ghost_name ≡ old.lengths.ghost_name
  pub kinds_same : new.kinds.ghost_name ≡ old.kinds.ghost_name
  pub points_same : new.points.ghost_name ≡ old.points.ghost_name
  pub colors_same : new.colors.ghost_name ≡ old.colors.ghost_name
  pub lengths_long : length new.lengths.now ≡ length old.lengths.now
  pub kinds_long : length new.kinds.now ≡ length old.kinds.now
  pub points_long : length new.points.now ≡ length old.points.now
  pub colors_long : length new.colors.now ≡ length old.colors.now

-- edges are written from place i on, and nothing else
pub record StoredFrom (i : ℕ) (edges : List EdgeSegment) (old new : ResultBuffers) : Type 0 where
  pub same : SameBuffers old new
  pub lengths_are : new.lengths.now ≡ old.lengths.now
  pub kinds_are : new.kinds.now ≡ over_from i (map kind_stored edges) old.kinds.now
  pub points_are : new.points.now ≡ over_from (8 * i) (flatten (map places_stored edges)) old.points.now
  pub colors_are : new.colors.now ≡ old.colors.now

-- the buffers of an outline agree, and hold no more contours and edges than are allowed
pub record Agrees (o : Outline) : Type 0 where
  pub contours-few : length o.lengths ≤ max_contours
  pub edges : length o.kinds ≡ total o.lengths
  pub few : length o.kinds ≤ max_edges
  pub places : length o.points ≡ 8 * length o.kinds

-- four buffers have room for so many contours and edges
abbrev pub has_room : ℕ → ℕ → Result → Bool
has_room contours edges old =
    leb contours (length old.lengths) && leb edges (length old.kinds) && leb (8 * edges) (length old.points) && leb edges (length old.colors)

-- the two of edges have room for n of them from place `to` on
abbrev pub EdgesFit : ℕ → ℕ → ResultBuffers → Type 0
EdgesFit to n out = (to + n ≤ length out.kinds.now) × (8 * (to + n) ≤ length out.points.now)

-- and that of their bytes too
pub record RoomFrom (to n : ℕ) (out : ResultBuffers) : Type 0 where
  pub edges_fit : EdgesFit to n out
  pub colors_fit : to + n ≤ length out.colors.now

-- a contour is written from place `to` on with the bytes of its edges, and nothing else
pub record WrittenFrom (to : ℕ) (contour : Cornered) (bytes : List ℕ) (old new : ResultBuffers) : Type 0 where
  pub same : SameBuffers old new
  pub lengths_are : new.lengths.now ≡ old.lengths.now
  pub kinds_are : new.kinds.now ≡ over_from to (map kind_stored contour.edges) old.kinds.now
  pub points_are : new.points.now ≡ over_from (8 * to) (flatten (map places_stored contour.edges)) old.points.now
  pub colors_are : new.colors.now ≡ over_from to bytes old.colors.now
