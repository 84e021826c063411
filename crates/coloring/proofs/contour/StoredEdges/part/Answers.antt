-- `StoredEdges::part` meets its contract: the parts of the buffers hold the part of the edges.
use Rattle.coloring.proofs.outline.EdgeLaws.{edges-between}
use Rattle.coloring.proofs.contour.StoredEdges.part.Goals as goal

pub returns-clause-edges : goal.returns-clause-edges
returns-clause-edges c = edges-between _ _ _ _ c.requires.0
