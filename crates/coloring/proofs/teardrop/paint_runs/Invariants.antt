-- `paint_runs`: after i turns the i places from the corner on have their values.
use Rattle.coloring.specs.Teardrop.{runs}
use Rattle.coloring.proofs.Places.{Walked}
use Rattle.coloring.proofs.teardrop.paint_runs.Given as goal

abbrev pub invariant-loop-i : goal.invariant-loop-i
invariant-loop-i l = Walked l.corner l.m (runs l.division l.first l.middle l.last l.m) 0 l.out l.i
