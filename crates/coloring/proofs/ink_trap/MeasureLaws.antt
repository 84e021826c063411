-- The corners measured an edge at a time: how many there are, and that none is minor yet.
use mathlib.Core.Path.{◌≡◌, refl, ap}
use mathlib.Core.Bool.{Bool, true, false}
use mathlib.Core.List.{List, [], ◌∷◌, ◌++◌, append-nil}
use Prim.Native.Nat.{ℕ, suc, ◌+◌, ◌≤◌, ◌<◌}
use native.Mathlib.Numerals.{add-one}
use native.Mathlib.Omega.{arith}
use lib.ListN.{length, take, drop, get_or, set, drop_of_length-le}
use lib.Seq.{drop-cons, take-suc-set, append_snoc}
use lib.Ieee as Ieee
use lib.Ieee.{Float, binary64}
use Rattle.math.specs.Scalar.{f0}
use Rattle.geometry.specs.declared.edge_segment.EdgeSegment.{EdgeSegment}
use Rattle.coloring.specs.declared.ink_trap.InkTrapCorner.{InkTrapCorner}
use Rattle.coloring.specs.Corners.{Cornered, estimate_edge_length, corners_from, corners_of, corner_count}
use Rattle.coloring.specs.Outline.{any_edge}
use Rattle.coloring.specs.InkTrap.{Measured, corner_at, major_count, measure_from, measure_corners}

abbrev pub longer : Float → EdgeSegment → Float
longer s e = Ieee.add binary64 s (estimate_edge_length e)

-- `count` corners stand in the array, and the edges from `index` on are still to be measured
unfoldable pub measuring : ℕ → ℕ → Float → List InkTrapCorner → List EdgeSegment → List Bool → Measured
measuring count index s array edges flags =
    let rest = measure_from index s (drop index edges) (drop index flags) in
    record { corners = take count array ++ rest.corners; spline_length = rest.spline_length }

module _ (array : List InkTrapCorner) (contour : Cornered) where
  pub measuring_begins : measure_corners contour ≡ measuring 0 0 f0 array contour.edges contour.corners
  unfolding measuring measure_corners
  measuring_begins = refl

module _ (count index : ℕ) (s : Float) (array : List InkTrapCorner) (edges : List EdgeSegment) (flags : List Bool) where
  pub measuring-ends : length edges ≤ index → measuring count index s array edges flags ≡ record { corners = take count array; spline_length = s }
  unfolding measuring measure_from
  measuring-ends h = rw (drop_of_length-le edges {i = index} h, append-nil)

  module _ (h : index < length edges) (l : index < length flags) where
    pub measuring_corner : count < length array → get_or flags index false ≡ true
        → measuring count index s array edges flags
        ≡ measuring (count + 1) (index + 1) (longer f0 (get_or edges index any_edge)) (set array count (corner_at index s)) edges flags
    unfolding measuring measure_from
    measuring_corner r t =
        rw (
          drop-cons edges index any_edge h,
          drop-cons flags index false l,
          t,
          add-one count,
          add-one index,
          take-suc-set array count (corner_at index s) r,
          append_snoc,
        )

    pub measuring-edge : get_or flags index false ≡ false
        → measuring count index s array edges flags ≡ measuring count (index + 1) (longer s (get_or edges index any_edge)) array edges flags
    unfolding measuring measure_from
    measuring-edge t = rw (drop-cons edges index any_edge h, drop-cons flags index false l, t, add-one index)

-- ---- what is known of measured corners

from-count : (index : ℕ) (s : Float) (edges : List EdgeSegment) (flags : List Bool) → length flags ≡ length edges
    → length (measure_from index s edges flags).corners ≡ length (corners_from index flags)
unfolding measure_from corners_from
from-count index s [] [] l = refl
from-count index s [] (flag ∷ flags) l = absurd (omega arith)
from-count index s (e ∷ edges) [] l = absurd (omega arith)
from-count index s (e ∷ edges) (true ∷ flags) l = ap suc (from-count (suc index) (longer f0 e) edges flags (omega arith))
from-count index s (e ∷ edges) (false ∷ flags) l = from-count (suc index) (longer s e) edges flags (omega arith)

pub measured-count : (contour : Cornered) → length contour.corners ≡ length contour.edges
    → length (measure_corners contour).corners ≡ corner_count contour.corners
unfolding measure_corners corner_count corners_of
measured-count contour l = from-count 0 f0 contour.edges contour.corners l

from_majors : (index : ℕ) (s : Float) (edges : List EdgeSegment) (flags : List Bool)
    → major_count (measure_from index s edges flags).corners ≡ length (measure_from index s edges flags).corners
unfolding measure_from major_count
from_majors index s [] flags = refl
from_majors index s (e ∷ edges) [] = refl
from_majors index s (e ∷ edges) (true ∷ flags) = omega (arith, from_majors (suc index) (longer f0 e) edges flags)
from_majors index s (e ∷ edges) (false ∷ flags) = from_majors (suc index) (longer s e) edges flags

-- none is minor yet
pub measured_majors : (contour : Cornered) → major_count (measure_corners contour).corners ≡ length (measure_corners contour).corners
unfolding measure_corners
measured_majors contour = from_majors 0 f0 contour.edges contour.corners
