-- `job::listing::Writer::put_contour` meets its contract, line by line.
use Rattle.std.proofs.Common.{drop}
use Rattle.job.specs.Listing.{contour_lines}
use Rattle.job.proofs.listing.WriterLaws.{Writing}
use Rattle.job.proofs.listing.Writer.put_contour.Given as goal

abbrev pub invariant-loop-place : goal.invariant-loop-place
invariant-loop-place l = Writing (contour_lines l.contour 0 l.edges.kinds.now l.edges.colors.now) l.initial.self
    (contour_lines l.contour l.place (drop l.place l.edges.kinds.now) (drop l.place l.edges.colors.now)) l.self
