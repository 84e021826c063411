-- `first_possible_color` meets its contract: the definition's list, read inside.
use mathlib.Core.List.{[], ◌∷◌}
use native.Mathlib.Omega.{arith}
use Rattle.coloring.specs.Recolor.{first_possible_color}
use Rattle.coloring.proofs.Lists.{get_d_any}
use Rattle.coloring.proofs.recolor.first_possible_color.Goals as goal

pub returns : goal.returns
unfolding first_possible_color
returns c = get_d_any (3 ∷ 0 ∷ 1 ∷ 0 ∷ 2 ∷ 2 ∷ 1 ∷ 0 ∷ []) c.args.possible 0 3 (omega arith)
