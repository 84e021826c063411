-- The edges of the result with their flags: a contour of one edge or two with one corner is split in thirds, any other
-- stays as it is. After the split in `color_teardrop` of coloring/mod.rs and of by_distance.rs. What comes after reads
-- the result alone.
use Rattle.std.specs.Prelude.{ℕ, ◌*◌, Bool, true, false, ◌&&◌, cond, length, leb, eqb}
use mathlib.Core.List.{List, [], ◌∷◌, map, flatten}
use Rattle.geometry.specs.EdgeSegment.{split_in_thirds}
use Rattle.geometry.specs.declared.edge_segment.EdgeSegment.{EdgeSegment}
use Rattle.coloring.specs.Lists.{range}
use Rattle.coloring.specs.Places.{rotate}
use Rattle.coloring.specs.Corners.{Cornered, corner_count, first_corner}

unfoldable pub thirds : EdgeSegment → List EdgeSegment
thirds e = (split_in_thirds e).first ∷ (split_in_thirds e).second ∷ (split_in_thirds e).third ∷ []

unfoldable pub splits : List Bool → Bool
splits flags = leb (length flags) 2 && eqb (corner_count flags) 1

-- n flags, of which the first alone is true
unfoldable pub first_only : ℕ → List Bool
unfolding range
first_only n = map (λ i. eqb i 0) (range 0 n)

-- the thirds of all edges, from the corner on
unfoldable pub split_contour : Cornered → Cornered
unfolding thirds rotate flatten first_only
split_contour contour =
    let edges = flatten (map thirds (rotate (first_corner contour.corners) contour.edges)) in
    record { edges = edges; corners = first_only (length edges) }

unfoldable pub layout : Cornered → Cornered
unfolding splits split_contour
layout contour = elim (splits contour.corners) [ true ↦ split_contour contour | false ↦ contour ]

-- how many edges that gives
unfoldable pub result_edges : List Bool → ℕ
unfolding splits
result_edges flags = cond (splits flags) (3 * length flags) (length flags)
