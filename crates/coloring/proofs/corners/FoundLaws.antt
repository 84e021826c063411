-- The flags of all contours, one contour after the other, and the contours that they are cut into.
use mathlib.Core.Path.{◌≡◌, refl, ◌∙◌}
use mathlib.Core.List.{List, [], ◌∷◌, ◌++◌, flatten}
use Prim.Native.Nat.{ℕ, ◌+◌, ◌≤◌, ◌<◌}
use native.Mathlib.Omega.{arith}
use lib.Ieee.{Float}
use lib.ListN.{length, get_or, take, drop, length-append, length-drop}
use lib.Seq.{length-take-le, take_at, drop_at}
use Rattle.geometry.specs.EdgeSegment.{unit_directions}
use Rattle.geometry.specs.declared.edge_segment.EdgeSegment.{EdgeSegment}
use Rattle.coloring.specs.declared.directions.Ends.{Ends}
use Rattle.coloring.specs.Lists.{map-take, map-drop}
use Rattle.coloring.specs.Places.{total}
use Rattle.coloring.specs.Corners.{corner_flags, directions_of, ends_of, ends_in, flags_between, same_flags, find_corners, cornered}
use Rattle.coloring.specs.Directions.{all_flags}
use Rattle.coloring.specs.Outline.{cut}
use Rattle.coloring.specs.Sizes.{flags-length, between-length}
use Rattle.coloring.proofs.outline.CutLaws.{cut_step, cut_end}

module _ (threshold : Float) where
  first-length : (n : ℕ) (lengths : List ℕ) (ends : List Ends) → n + total lengths ≤ length ends
      → length (flags_between threshold (take n ends)) ≡ n
  first-length n lengths ends h = between-length threshold (take n ends) ∙ length-take-le n ends (omega arith)

  pub all-length : (lengths : List ℕ) (ends : List Ends) → total lengths ≤ length ends → length (all_flags threshold lengths ends) ≡ total lengths
  unfolding flatten total cut
  all-length [] ends h = refl
  all-length (n ∷ lengths) ends h =
      length-append (flags_between threshold (take n ends)) _
      ∙ omega (arith, first-length n lengths ends h, all-length lengths (drop n ends) (rw length-drop (omega arith)))

  pub all-cut : (lengths : List ℕ) (edges : List EdgeSegment) → total lengths ≤ length edges
      → cornered lengths edges (all_flags threshold lengths (ends_in (directions_of edges))) ≡ (find_corners threshold (cut lengths edges)).contours
  unfolding flatten total cut cornered find_corners
  all-cut [] edges h = refl
  all-cut (n ∷ lengths) edges h =
      let here = corner_flags threshold (take n edges) in
      let rest = all_flags threshold lengths (ends_in (directions_of (drop n edges))) in
      let l : length here ≡ n = flags-length threshold (take n edges) ∙ length-take-le n edges (omega arith) in
      rw (
        ← map-take ends_of n (directions_of edges),
        ← map-drop ends_of n (directions_of edges),
        ← map-take unit_directions n edges,
        ← map-drop unit_directions n edges,
        ← same_flags threshold (take n edges),
        take_at here rest n l,
        drop_at here rest n l,
        all-cut lengths (drop n edges) (rw length-drop (omega arith)),
      )

  module _ (lengths : List ℕ) (ends : List Ends) (i at : ℕ) where
    pub all-step : i < length lengths
        → all_flags threshold (drop i lengths) (drop at ends)
        ≡ flags_between threshold (take (get_or lengths i 0) (drop at ends)) ++ all_flags threshold (drop (i + 1) lengths) (drop (at + get_or lengths i 0) ends)
    unfolding flatten
    all-step h = rw (cut_step lengths ends i at h)

    pub all_end : length lengths ≤ i → all_flags threshold (drop i lengths) (drop at ends) ≡ []
    unfolding flatten
    all_end h = rw (cut_end lengths ends i at h)
