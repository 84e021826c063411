-- `total` meets its contract: the library's sum.
use mathlib.Core.Path.{◌≡◌, ◌∙◌}
use borrow.Author.Rules.{rules}
use Rattle.std.specs.List.{sum}
use Rattle.coloring.proofs.outline.CheckLaws.{sum-total}
use Rattle.coloring.proofs.outline.total.Goals as goal

pub returns : goal.returns
returns c =
    let e : c.sum.result ≡ sum c.args.lengths.now = search rules in
    e ∙ sum-total c.args.lengths.now
