-- What the buffers of edges and of contours hold.
use Rattle.std.specs.Prelude.{ℕ, ◌-◌, List, take, drop}
use Rattle.geometry.specs.declared.edge_segment.EdgeSegment.{EdgeSegment}
use Rattle.coloring.specs.Corners.{Cornered, cornered}
use Rattle.coloring.specs.Outline.{edges_of}
use Rattle.coloring.specs.declared.contour.StoredEdges.{StoredEdges}
use Rattle.coloring.specs.declared.contour.Contour.{Contour}
use Rattle.coloring.specs.declared.contour.Contours.{Contours}

abbrev pub stored_edges : StoredEdges → List EdgeSegment
stored_edges edges = edges_of edges.kinds.now edges.points.now

abbrev pub contour_in : Contour → Cornered
contour_in contour = record { edges = stored_edges contour.edges; corners = contour.flags.now }

abbrev pub contours_in : Contours → List Cornered
contours_in contours = cornered contours.lengths.now (stored_edges contours.all.edges) contours.all.flags.now

-- the contour of the edges from `at` up to `end`
abbrev pub part : Cornered → ℕ → ℕ → Cornered
part contour at end = record { edges = take (end - at) (drop at contour.edges); corners = take (end - at) (drop at contour.corners) }
