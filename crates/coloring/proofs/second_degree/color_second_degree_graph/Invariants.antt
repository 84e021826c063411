-- `color_second_degree_graph` meets its contract: what is left to colour, after the splines below i, gives the whole.
use mathlib.Core.Path.{◌≡◌}
use Prim.Native.Nat.{◌-◌, ◌≤◌}
use lib.ListN.{length, take}
use Rattle.coloring.specs.SecondDegree.{color_from, color_second_degree_graph}
use Rattle.coloring.proofs.second_degree.color_second_degree_graph.Given as goal

abbrev pub invariant-loop-i : goal.invariant-loop-i
invariant-loop-i l = (l.i ≤ l.edge_matrix.n) × (length l.coloring ≡ l.edge_matrix.n) ×
    (color_from l.edge_matrix.n l.edge_matrix.entries.now (l.edge_matrix.n - l.i) l.rest (take l.i l.coloring)
    ≡ color_second_degree_graph l.edge_matrix.n l.edge_matrix.entries.now l.seed)
