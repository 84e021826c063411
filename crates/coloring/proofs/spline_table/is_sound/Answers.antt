-- `is_sound` meets its contract: the three parts that it looks at say what `sound` says.
use Rattle.coloring.proofs.spline_table.TableLaws.{sound-looked}
use Rattle.coloring.proofs.spline_table.is_sound.Goals as goal

pub returns : goal.returns
returns c =
    rw (c.at_most-colors.ensures, c.at_most-entries.ensures, c.is_symmetric.ensures, c.requires)
    (sound-looked c.args.coloring.now c.args.edge_matrix.entries.now (rw c.requires at c.args.edge_matrix.square))
