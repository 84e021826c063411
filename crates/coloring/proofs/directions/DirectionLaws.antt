-- Directions in a buffer: those of a part of it, and the places and marks that are written next.
use mathlib.Core.Path.{◌≡◌, refl, sym, ap, ◌∙◌}
use mathlib.Core.List.{List, [], ◌∷◌, map, map-append, flatten}
use Prim.Native.Nat.{ℕ, zero, suc, ◌+◌, ◌-◌, ◌*◌, ◌≤◌, ◌<◌}
use native.Mathlib.Nat.{mul-le-mul_left}
use native.Mathlib.Omega.{arith}
use lib.Ieee.{Float, nan}
use lib.ListN.{length, take, drop, get_or, length-append, length-drop, drop_of_length-le, take-append-drop}
use lib.Seq.{drop-drop, get_or-take}
use Rattle.geometry.specs.EdgeSegment.{unit_directions}
use Rattle.geometry.specs.declared.edge_segment.Directions.{Directions}
use Rattle.geometry.specs.declared.edge_segment.EdgeSegment.{EdgeSegment}
use Rattle.coloring.specs.Lists.{over_from}
use Rattle.coloring.specs.Places.{total}
use Rattle.coloring.specs.Corners.{directions_of}
use Rattle.coloring.specs.Outline.{cut}
use Rattle.coloring.specs.Directions.{ends_at, decode_ends}
use Rattle.coloring.proofs.Lists.{length-zero, drop-take, drop-next}
use Rattle.coloring.proofs.Writing.{over-all, over-length, over-more, over_nothing}

pub decode-length : (n : ℕ) (places : List Float) → length (decode_ends n places) ≡ n
unfolding decode_ends
decode-length zero places = refl
decode-length (suc n) places = ap suc (decode-length n (drop 4 places))

decode-drop : (i n : ℕ) (places : List Float) → i ≤ n → drop i (decode_ends n places) ≡ decode_ends (n - i) (drop (4 * i) places)
unfolding decode_ends
decode-drop zero n places h =
    let all : n - 0 ≡ n = omega arith in
    rw all
decode-drop (suc i) zero places h = absurd (omega arith)
decode-drop (suc i) (suc n) places h =
    let next : 4 + 4 * i ≡ 4 * suc i = omega arith in
    let left : suc n - suc i ≡ n - i = omega arith in
    rw (left, decode-drop i n (drop 4 places) (omega arith), drop-drop (4 * i) 4 places, next)

pub decode-next : (n : ℕ) (places : List Float) (i : ℕ) → i < n
    → drop i (decode_ends n places) ≡ ends_at (drop (4 * i) places) ∷ drop (i + 1) (decode_ends n places)
unfolding decode_ends
decode-next n places i h =
    let left : n - i ≡ suc (n - (i + 1)) = omega arith in
    let next : 4 * i + 4 ≡ 4 * (i + 1) = omega arith in
    decode-drop i n places (omega arith)
    ∙ rw (left, drop-drop 4 (4 * i) places, next, decode-drop (i + 1) n places (omega arith))

-- only the first four places of each are read
decode-take : (m : ℕ) (places : List Float) → decode_ends m (take (4 * m) places) ≡ decode_ends m places
unfolding decode_ends
decode-take zero places = refl
decode-take (suc m) places =
    let next : 4 * suc m ≡ 4 + 4 * m = omega arith in
    rw (
      next,
      drop-take 4 (4 * m) places,
      decode-take m (drop 4 places),
      get_or-take (4 + 4 * m) places 0 nan (omega arith),
      get_or-take (4 + 4 * m) places 1 nan (omega arith),
      get_or-take (4 + 4 * m) places 2 nan (omega arith),
      get_or-take (4 + 4 * m) places 3 nan (omega arith),
    )

decode_front : (m n : ℕ) (places : List Float) → m ≤ n → take m (decode_ends n places) ≡ decode_ends m places
unfolding decode_ends
decode_front zero n places h = refl
decode_front (suc m) zero places h = absurd (omega arith)
decode_front (suc m) (suc n) places h = rw (decode_front m n (drop 4 places) (omega arith))

-- the directions of the edges from `at` up to `end` are those of their part of the buffer
pub decode-part : (at end n : ℕ) (places : List Float) → at ≤ end → end ≤ n
    → decode_ends (end - at) (take (4 * end - 4 * at) (drop (4 * at) places)) ≡ take (end - at) (drop at (decode_ends n places))
decode-part at end n places h j =
    let m : 4 * end - 4 * at ≡ 4 * (end - at) = omega arith in
    rw (m, decode-drop at n places (omega arith), decode_front (end - at) (n - at) (drop (4 * at) places) (omega arith))
    (decode-take (end - at) (drop (4 * at) places))

-- ---- writing

-- what is written of the directions of edges
abbrev places_of : {A : Type 0} → (Directions → List A) → List EdgeSegment → List A
places_of places edges = flatten (map places (directions_of edges))

-- a buffer that will hold it: that of the edges before place `at` is there
pub record Directing {A : Type 0} (width : ℕ) (places : Directions → List A) (edges : List EdgeSegment) (at : ℕ) (out : List A) : Type 0 where
  pub room : length out ≡ width * length edges
  pub so_far : places_of places edges ≡ over_from (width * at) (places_of places (drop at edges)) out

module _ {A : Type 0} (width : ℕ) (places : Directions → List A) (long : (d : Directions) → length (places d) ≡ width) where
  pub places-length : (edges : List EdgeSegment) → length (places_of places edges) ≡ width * length edges
  unfolding flatten
  places-length [] = omega arith
  places-length (e ∷ edges) =
      length-append (places (unit_directions e)) (places_of places edges) ∙ omega (arith, long (unit_directions e), places-length edges)

  module _ (edges : List EdgeSegment) (out : List A) where
    pub directing_none : length out ≡ width * length edges → Directing width places edges 0 out
    directing_none h =
        let none : width * 0 ≡ 0 = omega arith in
        record { room = h; so_far = rw none (sym (over-all (places_of places edges) out (omega (arith, places-length edges)))) }

    module _ (at : ℕ) (s : Directing width places edges at out) where
      pub directing_next : (d : EdgeSegment) → at < length edges
          → Directing width places edges (at + 1) (over_from (width * at) (places (unit_directions (get_or edges at d))) out)
      unfolding flatten
      directing_next d h =
          let here = places (unit_directions (get_or edges at d)) in
          let next : width * at + width ≡ width * (at + 1) = omega arith in
          let inside : width * at + width ≤ length out = rw (next, s.room) (mul-le-mul_left width (omega arith)) in
          record {
            room = over-length (width * at) width here out (long _) inside ∙ s.room;
            so_far = s.so_far ∙ rw (drop-next edges at d h, ← next) (over-more (width * at) width here _ out (long _) inside);
          }

      pub directing_all : length edges ≤ at → out ≡ places_of places edges
      unfolding flatten
      directing_all h = sym (s.so_far ∙ rw (drop_of_length-le edges {i = at} h) (over_nothing (width * at) out))

-- the directions of all contours are those of all edges
pub directions-whole : (lengths : List ℕ) (edges : List EdgeSegment) → total lengths ≡ length edges
    → flatten (map directions_of (cut lengths edges)) ≡ directions_of edges
unfolding flatten total cut
directions-whole [] edges h = rw (length-zero edges (sym h))
directions-whole (n ∷ lengths) edges h =
    rw (directions-whole lengths (drop n edges) (rw length-drop (omega arith)))
    (sym (map-append unit_directions (take n edges) (drop n edges)) ∙ ap directions_of (take-append-drop n edges))
