-- The answers for `is_symmetric`, by the invariant of Invariants.antt.
use mathlib.Core.Path.{◌≡◌, sym}
use mathlib.Core.Bool.{◌&&◌}
use native.Mathlib.Omega.{arith}
use lib.Dec.{eqb}
use Rattle.coloring.specs.SplineTable.{entry, mirrored}
use Rattle.coloring.proofs.spline_table.TableLaws.{all_none, all_more}
use Rattle.coloring.proofs.edge_matrix.EdgeMatrix.is_symmetric.Goals as goal

pub loop-i-init : goal.loop-i-init
loop-i-init c = sym (all_none _)

pub loop-i-preserved : goal.loop-i-preserved
loop-i-preserved c =
    let args = c.args in
    let entries = entry args.self.n args.self.entries.now in
    let more = all_more c.loop-i.i (λ k. mirrored args.self.n args.self.entries.now k && eqb (entries k k) 0) in
    rw (c.loop-i.invariant, c.is_mirrored.ensures, c.entry.ensures, more)

pub returns : goal.returns
returns c =
    let e : c.loop-i.i ≡ c.args.self.n = omega arith in
    rw e at c.loop-i.invariant
