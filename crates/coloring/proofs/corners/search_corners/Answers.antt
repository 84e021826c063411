-- `search_corners` meets its contract: the corners of the directions are those of the source's search, and the marks of
-- all edges add up to the stand-ins of all contours.
use mathlib.Core.Path.{◌≡◌, sym, ap, ap₂, ◌∙◌}
use native.Mathlib.Omega.{arith}
use lib.ListN.{length, length-map}
use Rattle.geometry.specs.EdgeSegment.{unit_directions}
use Rattle.coloring.specs.Corners.{directions_of, ends_in, stand_in_count, found_in, find_corners, added_up, cornered}
use Rattle.coloring.specs.Places.{total}
use Rattle.coloring.specs.Outline.{cut}
use Rattle.coloring.specs.Contours.{stored_edges}
use Rattle.coloring.specs.Directions.{encode_directions, decode_ends, ends_again, all_flags}
use Rattle.coloring.proofs.outline.EdgeLaws.{edges-length}
use Rattle.coloring.proofs.directions.DirectionLaws.{directions-whole}
use Rattle.coloring.proofs.corners.FoundLaws.{all-cut}
use Rattle.coloring.proofs.corners.search_corners.Goals as goal

pub returns : goal.returns
unfolding stand_in_count
returns g c =
    let a = c.args in
    let edges = stored_edges a.edges in
    let lengths = a.lengths.now in
    let as_many : length edges ≡ length a.edges.kinds.now = edges-length a.edges.kinds.now a.edges.points.now in
    let again : decode_ends (length a.flags.now) (encode_directions (directions_of edges)) ≡ ends_in (directions_of edges) =
    ap (λ n. decode_ends n (encode_directions (directions_of edges)))
    (sym (length-map edges unit_directions ∙ as_many ∙ sym c.requires.sizes.1))
    ∙ ends_again (directions_of edges) in
    -- contour by contour the stand-ins are as many as through all
    let counted : stand_in_count (directions_of edges) ≡ (find_corners a.threshold (cut lengths edges)).stand_ins =
    sym (added_up a.threshold _ ∙ ap stand_in_count (directions-whole lengths edges (c.requires.sizes.0 ∙ sym as_many))) in
    let flags =
    c.compare_neighbors.ensures
    ∙ ap (λ places. all_flags a.threshold lengths (decode_ends (length a.flags.now) places)) c.unit_directions.ensures.out_after
    ∙ ap (all_flags a.threshold lengths) again in
    let corners = all-cut a.threshold lengths edges (omega (arith, c.requires.sizes.0, as_many)) in
    ap₂ found_in (ap (cornered lengths edges) flags ∙ corners)
    (c.count_marks.ensures ∙ ap total c.unit_directions.ensures.marks_after ∙ counted)
