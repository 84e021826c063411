-- `job::listing::Writer::put_shape` meets its contract, contour by contour.
use Rattle.std.proofs.Common.{◌≡◌, ℕ, List, ◌+◌, length, drop}
use Rattle.coloring.specs.Places.{total}
use Rattle.coloring.specs.Outline.{cut}
use Rattle.job.specs.Listing.{shape_lines}
use Rattle.job.proofs.listing.WriterLaws.{Writing}
use Rattle.job.proofs.listing.Writer.put_shape.Given as goal

-- the lines of contours that stand one after another
abbrev pub lines : ℕ → List ℕ → List ℕ → List ℕ → List ℕ
lines contour lengths kinds colors = shape_lines contour (cut lengths kinds) (cut lengths colors)

abbrev pub invariant-loop-contour : goal.invariant-loop-contour
invariant-loop-contour l = record {
  edges : l.from + total (drop l.contour l.lengths) ≡ length l.edges.kinds.now;
  writing : Writing (lines 0 l.lengths l.edges.kinds.now l.edges.colors.now) l.initial.self
      (lines l.contour (drop l.contour l.lengths) (drop l.from l.edges.kinds.now) (drop l.from l.edges.colors.now)) l.self;
}
