-- `row` meets its contract: the row lies in the table.
use native.Mathlib.Omega.{arith}
use Rattle.coloring.proofs.recolor.RowLaws.{row_inside, row-part, square_below}
use Rattle.coloring.proofs.edge_matrix.EdgeMatrix.row.Goals as goal

pub overflow_mul-start : goal.overflow_mul-start
overflow_mul-start c = omega (arith, row_inside c.args.self.n c.args.v c.requires, square_below c.args.self.few)

pub overflow_add-end : goal.overflow_add-end
overflow_add-end c = omega (arith, row_inside c.args.self.n c.args.v c.requires, square_below c.args.self.few)

pub slice_bounds-result-end : goal.slice_bounds-result-end
slice_bounds-result-end c = omega (arith, row_inside c.args.self.n c.args.v c.requires)

pub returns : goal.returns
returns c = row-part _ _ _
