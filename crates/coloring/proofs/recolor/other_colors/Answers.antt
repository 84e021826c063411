-- `other_colors` meets its contract: a shift by at most 2 loses no bit.
use Rattle.coloring.proofs.recolor.FreeColorLaws.{shifted, others}
use Rattle.coloring.proofs.recolor.other_colors.Goals as goal

pub overflow_sub-result : goal.overflow_sub-result
overflow_sub-result c = rw (shifted c.args.c c.requires) (others c.args.c c.requires).0

pub returns : goal.returns
returns c = rw (shifted c.args.c c.requires)
