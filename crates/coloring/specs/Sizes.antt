-- How long the parts of a result are: laws on the definitions, for the proofs of this crate and of those above it.
use Prim.Native.Nat.{ℕ, suc, ◌+◌, ◌-◌, ◌*◌, ◌≤◌}
use Rattle.std.specs.Prelude.{◌≡◌, Bool, cond, leb, Float, get_or, take, drop}
use Rattle.std.proofs.Math.Path.{refl, ap}
use Rattle.std.proofs.Common.{sym, ◌∙◌, arith, length-take, take_at, eqb-true, leb-true}
use Rattle.std.proofs.Math.Bool.{true, false}
use mathlib.Core.List.{List, [], ◌∷◌, map, flatten}
use Rattle.std.proofs.Math.Dec.{eqb}
use Rattle.std.proofs.Math.ListN.{length, length-append, length-drop, length-map}
use Rattle.std.proofs.Math.Seq.{drop_at}
use Rattle.math.specs.declared.vector2.Vector2.{Vector2}
use Rattle.geometry.specs.EdgeSegment.{unit_directions, to_stored}
use Rattle.geometry.specs.declared.edge_segment.EdgeSegment.{EdgeSegment}
use Rattle.geometry.specs.declared.edge_segment.EdgeSegment.TheVariants.{Line, Quadratic, Cubic}
use Rattle.coloring.specs.Bools.{and_left, and_right, branch_true, branch_false}
use Rattle.coloring.specs.Lists.{range, length-range, last_of}
use Rattle.coloring.specs.Limits.{max_contours, max_edges, max_result_edges}
use Rattle.coloring.specs.Places.{rotate, by_place, total}
use Rattle.coloring.specs.declared.directions.Ends.{Ends}
use Rattle.coloring.specs.declared.settings.Division.{Division}
use Rattle.coloring.specs.Corners.{corner_flags, directions_of, ends_of, ends_in, flags_after, flags_between, same_flags}
use Rattle.coloring.specs.Corners.{Cornered, find_corners, edges_in, flags_in, corner_count, first_corner}
use Rattle.coloring.specs.Layout.{thirds, splits, first_only, split_contour, layout, result_edges}
use Rattle.coloring.specs.Teardrop.{runs, teardrop}
use Rattle.coloring.specs.Splines.{spline_count, spread, paint, paint_contours}
use Rattle.coloring.specs.Outline.{cut, Result, kind_stored, places_stored, encode}
use Rattle.coloring.specs.Shape.{painted}

-- ---- lists

-- the lengths of lists
abbrev pub sizes : {A : Type 0} → List (List A) → List ℕ
sizes {A} xss = map (λ (xs : List A). length xs) xss

module _ {A : Type 0} where
  pub length-rotate : (k : ℕ) (xs : List A) → length (rotate k xs) ≡ length xs
  unfolding rotate
  length-rotate k xs = simp (length-append, length-drop, length-take) (omega arith)

  pub length-by_place : (start : ℕ) (xs : List A) → length (by_place start xs) ≡ length xs
  unfolding by_place
  length-by_place start xs = length-rotate (length xs - start) xs

  pub cut_again : (xss : List (List A)) → cut (sizes xss) (flatten xss) ≡ xss
  unfolding cut flatten
  cut_again [] = refl
  cut_again (xs ∷ xss) = rw (take_at xs (flatten xss) (length xs) refl, drop_at xs (flatten xss) (length xs) refl, cut_again xss)

  pub flatten-length : (xss : List (List A)) → length (flatten xss) ≡ total (sizes xss)
  unfolding flatten total
  flatten-length [] = refl
  flatten-length (xs ∷ xss) = length-append xs (flatten xss) ∙ ap (λ n. length xs + n) (flatten-length xss)

module _ {A B : Type 0} (f : A → B) where
  pub sizes-map : (xss : List (List A)) → sizes (map (map f) xss) ≡ sizes xss
  sizes-map [] = refl
  sizes-map (xs ∷ xss) = rw (length-map xs f, sizes-map xss)

-- ---- a flag for each edge

module _ (threshold : Float) where
  after-length : (prev : Vector2) (ends : List Ends) → length (flags_after threshold prev ends) ≡ length ends
  unfolding flags_after
  after-length prev [] = refl
  after-length prev (d ∷ ends) = ap suc (after-length d.end ends)

  pub between-length : (ends : List Ends) → length (flags_between threshold ends) ≡ length ends
  unfolding flags_between
  between-length [] = refl
  between-length (d ∷ ends) = after-length (last_of d ends).end (d ∷ ends)

  pub flags-length : (edges : List EdgeSegment) → length (corner_flags threshold edges) ≡ length edges
  flags-length edges =
      ap length (same_flags threshold edges)
      ∙ between-length (ends_in (directions_of edges))
      ∙ length-map (directions_of edges) ends_of
      ∙ length-map edges unit_directions

-- ---- the edges of the result

pub thirds-length : (edges : List EdgeSegment) → length (flatten (map thirds edges)) ≡ 3 * length edges
unfolding flatten thirds
thirds-length [] = refl
thirds-length (e ∷ edges) = omega (arith, thirds-length edges)

pub edges-split : (flags : List Bool) → splits flags ≡ true → result_edges flags ≡ 3 * length flags
unfolding result_edges
edges-split flags e = ap (λ b. cond b (3 * length flags) (length flags)) e

pub edges_same : (flags : List Bool) → splits flags ≡ false → result_edges flags ≡ length flags
unfolding result_edges
edges_same flags e = ap (λ b. cond b (3 * length flags) (length flags)) e

threefold : (b : Bool) (m : ℕ) → cond b (3 * m) m ≤ 3 * m
threefold true m = omega arith
threefold false m = omega arith

pub edges_bound : (flags : List Bool) → result_edges flags ≤ 3 * length flags
unfolding result_edges
edges_bound flags = threefold (splits flags) (length flags)

-- a split contour has one corner, and two edges at most
pub split-few : (flags : List Bool) → splits flags ≡ true → (corner_count flags ≡ 1) × (length flags ≤ 2)
unfolding splits
split-few flags e =
    let few = leb (length flags) 2 in
    let one = eqb (corner_count flags) 1 in
    (eqb-true (corner_count flags) 1 (and_right few one e), leb-true (length flags) 2 (and_left few one e))

module _ (contour : Cornered) where
  pub layout-split : splits contour.corners ≡ true → layout contour ≡ split_contour contour
  unfolding layout
  layout-split e = branch_true (splits contour.corners) _ _ e

  pub layout_same : splits contour.corners ≡ false → layout contour ≡ contour
  unfolding layout
  layout_same e = branch_false (splits contour.corners) _ _ e

  pub split-length : length (split_contour contour).edges ≡ 3 * length contour.edges
  unfolding split_contour
  split-length =
      thirds-length (rotate (first_corner contour.corners) contour.edges)
      ∙ ap (λ n. 3 * n) (length-rotate (first_corner contour.corners) contour.edges)

  module _ (l : length contour.corners ≡ length contour.edges) where
    by_split : (b : Bool) → splits contour.corners ≡ b → length (layout contour).edges ≡ result_edges contour.corners
    by_split true e = rw (layout-split e, edges-split contour.corners e) (split-length ∙ ap (λ n. 3 * n) (sym l))
    by_split false e = rw (layout_same e, edges_same contour.corners e) (sym l)

    pub layout-length : length (layout contour).edges ≡ result_edges contour.corners
    layout-length = by_split (splits contour.corners) refl

    flags_by_split : (b : Bool) → splits contour.corners ≡ b → length (layout contour).corners ≡ length (layout contour).edges
    unfolding split_contour first_only
    flags_by_split true e =
        rw (layout-split e) (length-map (range 0 (length (split_contour contour).edges)) (λ i. eqb i 0) ∙ length-range 0 (length (split_contour contour).edges))
    flags_by_split false e = rw (layout_same e) l

    pub layout-flagged : length (layout contour).corners ≡ length (layout contour).edges
    layout-flagged = flags_by_split (splits contour.corners) refl

-- ---- what is painted

module _ {A : Type 0} where
  runs-length : (division : Division) (first middle last : A) (m : ℕ) → length (runs division first middle last m) ≡ m
  unfolding runs
  runs-length division first middle last m = length-map (range 0 m) _ ∙ length-range 0 m

  pub spread-length : (value : A) (values : List A) (flags : List Bool) → length (spread value values flags) ≡ length flags
  unfolding spread
  spread-length value values [] = refl
  spread-length value values (false ∷ flags) = ap suc (spread-length value values flags)
  spread-length value [] (true ∷ flags) = ap suc (spread-length value [] flags)
  spread-length value (next ∷ values) (true ∷ flags) = ap suc (spread-length next values flags)

  module _ (division : Division) (middle : A) (values : List A) (flags : List Bool) where
    pub paint-one : eqb (corner_count flags) 1 ≡ true
        → paint division middle values flags ≡ by_place (first_corner flags)
        (runs division (get_or values 0 middle) middle (get_or values 1 middle) (length flags))
    unfolding paint teardrop
    paint-one e = branch_true (eqb (corner_count flags) 1) _ _ e

    pub paint-spread : eqb (corner_count flags) 1 ≡ false → paint division middle values flags ≡ spread (get_or values (length values - 1) middle) values flags
    unfolding paint
    paint-spread e = branch_false (eqb (corner_count flags) 1) _ _ e

    by_count : (b : Bool) → eqb (corner_count flags) 1 ≡ b → length (paint division middle values flags) ≡ length flags
    by_count true e = rw (paint-one e) (length-by_place (first_corner flags) _ ∙ runs-length division _ middle _ (length flags))
    by_count false e = rw (paint-spread e) (spread-length _ values flags)

    pub paint-length : length (paint division middle values flags) ≡ length flags
    paint-length = by_count (eqb (corner_count flags) 1) refl

  pub paint-sizes : (division : Division) (middle : A) (values : List A) (contours : List (List Bool))
      → sizes (paint_contours division middle values contours) ≡ sizes contours
  unfolding paint_contours
  paint-sizes division middle values [] = refl
  paint-sizes division middle values (flags ∷ rest) =
      rw (paint-length division middle (take (spline_count flags) values) flags, paint-sizes division middle (drop (spline_count flags) values) rest)

-- ---- contours with their corners, contour by contour

-- each has a flag for each of its edges
unfoldable pub Flagged : List Cornered → Type 0
Flagged [] = Unit {0}
Flagged (contour ∷ found) = (length contour.corners ≡ length contour.edges) × Flagged found

pub search_flagged : (threshold : Float) (contours : List (List EdgeSegment)) → Flagged (find_corners threshold contours).contours
unfolding Flagged find_corners
search_flagged threshold [] = tt
search_flagged threshold (edges ∷ contours) = (flags-length threshold edges, search_flagged threshold contours)

-- and as many as there were
pub found-sizes : (threshold : Float) (contours : List (List EdgeSegment)) → sizes (flags_in (find_corners threshold contours).contours) ≡ sizes contours
unfolding find_corners
found-sizes threshold [] = refl
found-sizes threshold (edges ∷ contours) = rw (flags-length threshold edges, found-sizes threshold contours)

pub laid-flagged : (found : List Cornered) → Flagged found → Flagged (map layout found)
unfolding Flagged
laid-flagged [] f = tt
laid-flagged (contour ∷ found) f = (layout-flagged contour f.0, laid-flagged found f.1)

pub flagged-sizes : (contours : List Cornered) → Flagged contours → sizes (flags_in contours) ≡ sizes (edges_in contours)
unfolding Flagged
flagged-sizes [] f = refl
flagged-sizes (contour ∷ contours) f = rw (f.0, flagged-sizes contours f.1)

-- what is laid out has as many edges as their flags count to
pub laid-sizes : (found : List Cornered) → Flagged found → sizes (edges_in (map layout found)) ≡ map result_edges (flags_in found)
unfolding Flagged
laid-sizes [] f = refl
laid-sizes (contour ∷ found) f = rw (layout-length contour f.0, laid-sizes found f.1)

-- ---- at most 508 edges: two thirds more for each of at most two edges of a split contour

-- all are split, or one is not
data Few (contours edges out : ℕ) : Type 0 where
  all_split : edges ≤ 2 * contours → out ≤ 3 * edges → Few contours edges out
  one_not : out + 4 ≤ edges + 4 * contours → Few contours edges out

few_most : (contours edges out : ℕ) → Few contours edges out → out ≤ edges + 4 * contours
few_most contours edges out (all_split h k) = omega arith
few_most contours edges out (one_not h) = omega arith

few-more : (flags : List Bool) (contours edges out : ℕ) (b : Bool) → splits flags ≡ b
    → Few contours edges out → Few (suc contours) (length flags + edges) (result_edges flags + out)
few-more flags contours edges out true h (all_split k l) = all_split (omega (arith, split-few flags h)) (omega (arith, edges-split flags h))
few-more flags contours edges out true h (one_not k) = one_not (omega (arith, split-few flags h, edges-split flags h))
few-more flags contours edges out false h few = one_not (omega (arith, edges_same flags h, few_most contours edges out few))

few : (contours : List (List Bool)) → Few (length contours) (total (sizes contours)) (total (map result_edges contours))
unfolding total
few [] = all_split (omega arith) (omega arith)
few (flags ∷ rest) = few-more flags (length rest) (total (sizes rest)) (total (map result_edges rest)) (splits flags) refl (few rest)

by_few : (contours edges out : ℕ) → Few contours edges out → contours ≤ max_contours → edges ≤ max_edges → out ≤ max_result_edges
by_few contours edges out (all_split h k) c e = omega arith
by_few contours edges out (one_not h) c e = omega arith

pub edges_most : (contours : List (List Bool)) → length contours ≤ max_contours
    → total (sizes contours) ≤ max_edges → total (map result_edges contours) ≤ max_result_edges
edges_most contours c e = by_few (length contours) (total (sizes contours)) (total (map result_edges contours)) (few contours) c e

-- ---- a whole result

pub places-length : (e : EdgeSegment) → length (places_stored e) ≡ 8
unfolding to_stored
places-length (Line p0 p1) = refl
places-length (Quadratic p0 p1 p2) = refl
places-length (Cubic p0 p1 p2 p3) = refl

pub points-length : (edges : List EdgeSegment) → length (flatten (map places_stored edges)) ≡ 8 * length edges
unfolding flatten
points-length [] = refl
points-length (e ∷ edges) = length-append (places_stored e) (flatten (map places_stored edges)) ∙ omega (arith, places-length e, points-length edges)

pub record Sized (result : Result) (contours edges : ℕ) : Type 0 where
  pub lengths_long : length result.lengths ≡ contours
  pub kinds_long : length result.kinds ≡ edges
  pub points_long : length result.points ≡ 8 * edges
  pub colors_long : length result.colors ≡ edges

pub encoded_sized : (edges : List (List EdgeSegment)) (bytes : List (List ℕ))
    → sizes bytes ≡ sizes edges → Sized (encode edges bytes) (length edges) (length (flatten edges))
unfolding encode
encoded_sized edges bytes e =
    record {
      lengths_long = length-map edges _;
      kinds_long = length-map (flatten edges) kind_stored;
      points_long = points-length (flatten edges);
      colors_long = flatten-length bytes ∙ ap total e ∙ sym (flatten-length edges);
    }

module _ (found : List Cornered) (f : Flagged found) where
  -- the byte of each edge, and the edges
  pub painted-sizes : (division : Division) (middle : ℕ) (values : List ℕ)
      → sizes (paint_contours division middle values (flags_in (map layout found))) ≡ sizes (edges_in (map layout found))
  painted-sizes division middle values =
      paint-sizes division middle values (flags_in (map layout found)) ∙ flagged-sizes (map layout found) (laid-flagged found f)

  pub painted-sized : (division : Division) (middle : ℕ) (values : List ℕ)
      → Sized (painted division middle values (map layout found)) (length found) (total (map result_edges (flags_in found)))
  unfolding painted
  painted-sized division middle values =
      let laid = edges_in (map layout found) in
      let contours : length laid ≡ length found = length-map (map layout found) _ ∙ length-map found layout in
      let edges : length (flatten laid) ≡ total (map result_edges (flags_in found)) = flatten-length laid ∙ ap total (laid-sizes found f) in
      let s = encoded_sized laid (paint_contours division middle values (flags_in (map layout found))) (painted-sizes division middle values) in
      record {
        lengths_long = s.lengths_long ∙ contours;
        kinds_long = s.kinds_long ∙ edges;
        points_long = s.points_long ∙ ap (λ n. 8 * n) edges;
        colors_long = s.colors_long ∙ edges;
      }
