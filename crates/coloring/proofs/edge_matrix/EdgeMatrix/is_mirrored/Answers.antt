-- The answers for `is_mirrored`, by the invariant of Invariants.antt.
use mathlib.Core.Path.{◌≡◌, sym}
use native.Mathlib.Omega.{arith}
use lib.Dec.{eqb}
use Rattle.coloring.specs.SplineTable.{entry}
use Rattle.coloring.proofs.spline_table.TableLaws.{all_none, all_more}
use Rattle.coloring.proofs.edge_matrix.EdgeMatrix.is_mirrored.Goals as goal

pub loop-j-init : goal.loop-j-init
loop-j-init c = sym (all_none _)

pub loop-j-preserved : goal.loop-j-preserved
loop-j-preserved c =
    let args = c.args in
    let entries = entry args.self.n args.self.entries.now in
    let more = all_more c.loop-j.j (λ k. eqb (entries args.i k) (entries k args.i)) in
    rw (c.loop-j.invariant, c.entry.ensures, c.entry-in-loop-j.ensures, more)

pub returns : goal.returns
returns c =
    let e : c.loop-j.j ≡ c.args.i = omega arith in
    rw e at c.loop-j.invariant
