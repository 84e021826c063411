-- Corners and length estimates, after `is_corner`, `estimate_edge_length` and `identify_corners` of coloring/mod.rs
-- (SCOPE, leaf 6).
use Prim.Native.Nat.{ℕ, zero, suc, ◌+◌, ◌-◌, ◌*◌, ◌≤◌, ◌<◌}
use Rattle.std.specs.Prelude.{◌≡◌, Bool, true, false, ◌||◌, cond, take, drop, negsuc, Float}
use Rattle.std.proofs.Math.Path.{refl, ap}
use Rattle.std.proofs.Common.{◌∙◌, length-append}
use mathlib.Core.List.{List, [], ◌∷◌, ◌++◌, map, flatten}
use Rattle.std.proofs.Math.ListN.{length, get_or}
use Rattle.std.proofs.lemmas.List.{length-map}
use native.Mathlib.Omega.{arith}
use Rattle.std.specs.Float.Ieee as Ieee
use Rattle.std.specs.Float.{nan, inf, fin, binary64}
use Rattle.std.specs.Float.Ieee.{of_bits}
use Rattle.math.specs.Scalar.{f0, f_half, f1}
use Rattle.math.specs.Vector2 as vector
use Rattle.math.specs.declared.vector2.Vector2.{Vector2}
use Rattle.math.specs.declared.vector2.Normalized.{Normalized}
use Rattle.geometry.specs.EdgeSegment.{point, direction, unit_directions}
use Rattle.geometry.specs.declared.edge_segment.Directions.{Directions}
use Rattle.geometry.specs.declared.edge_segment.EdgeSegment.{EdgeSegment}
use Rattle.coloring.specs.declared.directions.Ends.{Ends}
use Rattle.coloring.specs.Lists.{last_of}
use Rattle.coloring.specs.Places.{total}

-- the magnitude: the sign cleared
abbrev pub abs : Float → Float
abs nan = nan
abs (inf s) = inf false
abs (fin s m e) = fin false m e

-- dot ≤ 0 or |cross| > threshold
unfoldable pub is_corner : Vector2 → Vector2 → Float → Bool
is_corner a b threshold = Ieee.le (vector.dot a b) f0 || Ieee.lt threshold (abs (vector.cross a b))

-- ---- the estimated length of an edge: four chords, added up from 0 in order

-- 1/4 and 3/4, by their bit patterns
abbrev pub quarter : Float
quarter = of_bits binary64 0x3fd0_0000_0000_0000

abbrev pub three_quarters : Float
three_quarters = of_bits binary64 0x3fe8_0000_0000_0000

pub quarters : (quarter ≡ fin false 1 (negsuc 1)) × (three_quarters ≡ fin false 3 (negsuc 1))
unfolding of_bits
quarters = (refl, refl)

unfoldable pub chord : EdgeSegment → Float → Float → Float
chord e from to = vector.length_of (vector.sub (point e to) (point e from))

unfoldable pub estimate_edge_length : EdgeSegment → Float
unfolding chord
estimate_edge_length e =
    Ieee.add binary64
    (Ieee.add binary64 (Ieee.add binary64 (Ieee.add binary64 f0 (chord e f0 quarter)) (chord e quarter f_half)) (chord e f_half three_quarters))
    (chord e three_quarters f1)

-- ---- the corners of a contour

-- whether an edge starts at a corner, after an edge that ends in the direction `prev`
unfoldable pub starts_at_corner : Float → Vector2 → EdgeSegment → Bool
unfolding is_corner
starts_at_corner threshold prev e = is_corner (vector.normalize prev false).vector (vector.normalize (direction e f0) false).vector threshold

-- a flag for each edge, true where it starts at a corner
unfoldable pub flags_from : Float → Vector2 → List EdgeSegment → List Bool
unfolding starts_at_corner
flags_from threshold prev [] = []
flags_from threshold prev (e ∷ edges) = starts_at_corner threshold prev e ∷ flags_from threshold (direction e f1) edges

-- the edge before the first is the last
unfoldable pub corner_flags : Float → List EdgeSegment → List Bool
unfolding last_of flags_from
corner_flags threshold [] = []
corner_flags threshold (e ∷ edges) = flags_from threshold (direction (last_of e edges) f1) (e ∷ edges)

-- the places of the true flags, the first flag at place `index`
unfoldable pub corners_from : ℕ → List Bool → List ℕ
corners_from index [] = []
corners_from index (true ∷ flags) = index ∷ corners_from (suc index) flags
corners_from index (false ∷ flags) = corners_from (suc index) flags

unfoldable pub corners_of : List Bool → List ℕ
unfolding corners_from
corners_of flags = corners_from 0 flags

-- the places of the corners
unfoldable pub identify_corners : Float → List EdgeSegment → List ℕ
unfolding corner_flags corners_of
identify_corners threshold edges = corners_of (corner_flags threshold edges)

-- ---- the same from the edges' unit directions, worked out first

-- the directions of a contour's edges, each with whether it is a stand-in
abbrev pub directions_of : List EdgeSegment → List Directions
directions_of edges = map unit_directions edges

-- the vectors alone
abbrev pub ends_of : Directions → Ends
ends_of d = record { start = d.start.vector; end = d.end.vector }

abbrev pub ends_in : List Directions → List Ends
ends_in directions = map ends_of directions

-- a flag for each edge, after one that ends in the unit direction `prev`
unfoldable pub flags_after : Float → Vector2 → List Ends → List Bool
unfolding is_corner
flags_after threshold prev [] = []
flags_after threshold prev (d ∷ ends) = is_corner prev d.start threshold ∷ flags_after threshold d.end ends

-- the edge before the first is the last
unfoldable pub flags_between : Float → List Ends → List Bool
unfolding last_of flags_after
flags_between threshold [] = []
flags_between threshold (d ∷ ends) = flags_after threshold (last_of d ends).end (d ∷ ends)

-- the places of the corners, by the directions and the threshold alone
unfoldable pub corners_between : Float → List Ends → List ℕ
unfolding flags_between corners_of
corners_between threshold ends = corners_of (flags_between threshold ends)

flags-after : (threshold : Float) (prev : Vector2) (edges : List EdgeSegment)
    → flags_from threshold prev edges ≡ flags_after threshold (vector.normalize prev false).vector (ends_in (directions_of edges))
unfolding flags_from flags_after unit_directions
flags-after threshold prev [] = refl
flags-after threshold prev (e ∷ edges) = ap (λ (flags : List Bool). starts_at_corner threshold prev e ∷ flags) (flags-after threshold (direction e f1) edges)

last-ends : (e : EdgeSegment) (edges : List EdgeSegment)
    → ends_of (unit_directions (last_of e edges)) ≡ last_of (ends_of (unit_directions e)) (ends_in (directions_of edges))
unfolding last_of
last-ends e [] = refl
last-ends e (next ∷ edges) = last-ends next edges

-- the flags of the source's search are those of the directions, and so are its corners
pub same_flags : (threshold : Float) (edges : List EdgeSegment) → corner_flags threshold edges ≡ flags_between threshold (ends_in (directions_of edges))
unfolding corner_flags flags_between unit_directions
same_flags threshold [] = refl
same_flags threshold (e ∷ edges) =
    flags-after threshold (direction (last_of e edges) f1) (e ∷ edges)
    ∙ ap (λ (d : Ends). flags_after threshold d.end (ends_in (directions_of (e ∷ edges)))) (last-ends e edges)

pub same_corners : (threshold : Float) (edges : List EdgeSegment)
    → identify_corners threshold edges ≡ corners_between threshold (ends_in (directions_of edges))
unfolding identify_corners corners_between
same_corners threshold edges = ap corners_of (same_flags threshold edges)

-- the place before place i of m: the last before the first
abbrev pub place_before : ℕ → ℕ → ℕ
place_before m zero = m - 1
place_before m (suc i) = i

-- place i is a corner where the end of the edge before it and the start of edge i make one
module _ (threshold : Float) (none : Ends) where
  after-at : (prev : Vector2) (ends : List Ends) (i : ℕ) → suc i < length ends
      → get_or (flags_after threshold prev ends) (suc i) false ≡ is_corner (get_or ends i none).end (get_or ends (suc i) none).start threshold
  unfolding flags_after
  after-at prev [] i h = absurd (omega arith)
  after-at prev (d ∷ []) i h = absurd (omega arith)
  after-at prev (d ∷ next ∷ ends) zero h = refl
  after-at prev (d ∷ next ∷ ends) (suc i) h = after-at d.end (next ∷ ends) i (omega arith)

  last-at : (d : Ends) (ends : List Ends) → last_of d ends ≡ get_or (d ∷ ends) (length ends) none
  unfolding last_of
  last-at d [] = refl
  last-at d (next ∷ ends) = last-at next ends

  pub corner_at_lem : (ends : List Ends) (i : ℕ) → i < length ends
      → get_or (flags_between threshold ends) i false ≡ is_corner (get_or ends (place_before (length ends) i) none).end (get_or ends i none).start threshold
  unfolding flags_between
  corner_at_lem [] i h = absurd (omega arith)
  corner_at_lem (d ∷ ends) zero h =
      let last : length ends ≡ suc (length ends) - 1 = omega arith in
      ap (λ (e : Ends). is_corner e.end d.start threshold) (last-at d ends ∙ ap (λ k. get_or (d ∷ ends) k none) last)
  corner_at_lem (d ∷ ends) (suc i) h = after-at (last_of d ends).end (d ∷ ends) i h

-- ---- stand-ins: directions whose length was 0

abbrev pub stand_in_mark : Normalized → ℕ
stand_in_mark n = cond n.zero_length 1 0

-- of an edge: at its start, at its end
abbrev pub stand_in_marks : Directions → List ℕ
stand_in_marks d = stand_in_mark d.start ∷ stand_in_mark d.end ∷ []

-- of several, one edge after the other
unfoldable pub marks_of : List Directions → List ℕ
unfolding flatten
marks_of directions = flatten (map stand_in_marks directions)

-- how many of the directions, two an edge, are stand-ins
unfoldable pub stand_in_count : List Directions → ℕ
unfolding marks_of total
stand_in_count directions = total (marks_of directions)

pub count-append : (xs ys : List Directions) → stand_in_count (xs ++ ys) ≡ stand_in_count xs + stand_in_count ys
unfolding stand_in_count
count-append [] ys = omega arith
count-append (d ∷ xs) ys = omega (arith, count-append xs ys)

mark_few : (b : Bool) → cond b 1 0 ≤ 1
mark_few true = omega arith
mark_few false = omega arith

-- m edges have at most 2m
pub two_an_edge : (directions : List Directions) → stand_in_count directions ≤ 2 * length directions
unfolding stand_in_count
two_an_edge [] = omega arith
two_an_edge (d ∷ directions) =
    omega (arith, mark_few d.start.zero_length, mark_few d.end.zero_length, two_an_edge directions)

-- ---- what a search finds

-- how many flags are true, and where the first of them is
unfoldable pub corner_count : List Bool → ℕ
unfolding corners_of
corner_count flags = length (corners_of flags)

unfoldable pub first_corner : List Bool → ℕ
unfolding corners_of
first_corner flags = get_or (corners_of flags) 0 0

-- a contour, and a flag for each of its edges
pub record Cornered : Type 0 where
  pub edges : List EdgeSegment
  pub corners : List Bool

-- what a corner search answers: the contour with its flags, and how many of the directions of its edges are stand-ins
pub record Searched : Type 0 where
  pub contour : Cornered
  pub stand_ins : ℕ

unfoldable pub search_corners : Float → List EdgeSegment → Searched
unfolding corner_flags stand_in_count unit_directions
search_corners threshold edges = record {
  contour = record { edges = edges; corners = corner_flags threshold edges };
  stand_ins = stand_in_count (directions_of edges);
}

-- the same of all contours, the stand-ins added up
pub record Found : Type 0 where
  pub contours : List Cornered
  pub stand_ins : ℕ

abbrev pub found_in : List Cornered → ℕ → Found
found_in contours stand_ins = record { contours = contours; stand_ins = stand_ins }

unfoldable pub find_corners : Float → List (List EdgeSegment) → Found
unfolding search_corners total
find_corners threshold contours =
    let searched = map (search_corners threshold) contours in
    found_in (map (λ (s : Searched). s.contour) searched) (total (map (λ (s : Searched). s.stand_ins) searched))

-- a contour of m edges adds at most 2m, an empty one none
pub stand_ins_few : (threshold : Float) (edges : List EdgeSegment) → (search_corners threshold edges).stand_ins ≤ 2 * length edges
unfolding search_corners
stand_ins_few threshold edges = omega (arith, two_an_edge (directions_of edges), length-map edges unit_directions)

pub added_up : (threshold : Float) (contours : List (List EdgeSegment))
    → (find_corners threshold contours).stand_ins ≡ stand_in_count (flatten (map directions_of contours))
unfolding find_corners flatten
added_up threshold [] = refl
added_up threshold (edges ∷ contours) =
    omega (arith, count-append (directions_of edges) (flatten (map directions_of contours)), added_up threshold contours)

pub few_in_all : (threshold : Float) (contours : List (List EdgeSegment)) → (find_corners threshold contours).stand_ins ≤ 2 * length (flatten contours)
unfolding find_corners flatten
few_in_all threshold [] = omega arith
few_in_all threshold (edges ∷ contours) =
    omega (arith, stand_ins_few threshold edges, few_in_all threshold contours, length-append edges (flatten contours))

pub empty_adds_none : (threshold : Float) → (search_corners threshold []).stand_ins ≡ 0
unfolding search_corners
empty_adds_none threshold = refl

-- the edges of several contours, and their flags
abbrev pub edges_in : List Cornered → List (List EdgeSegment)
edges_in contours = map (λ (contour : Cornered). contour.edges) contours

abbrev pub flags_in : List Cornered → List (List Bool)
flags_in contours = map (λ (contour : Cornered). contour.corners) contours

-- edges and flags of several contours, cut into pieces of the given lengths
unfoldable pub cornered : List ℕ → List EdgeSegment → List Bool → List Cornered
cornered [] edges flags = []
cornered (n ∷ lengths) edges flags =
    record { edges = take n edges; corners = take n flags } ∷ cornered lengths (drop n edges) (drop n flags)
