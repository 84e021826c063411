-- `first_corner` meets its contract: the library finds what the definition does.
use mathlib.Core.Path.{◌≡◌, ap, ◌∙◌}
use Rattle.std.proofs.Common.{rules, tests, unwrap_or}
use Rattle.std.specs.List.{position}
use Rattle.std.proofs.lemmas.Iterator.{YieldsList-from_slice}
use Rattle.std.proofs.lemmas.Iterator.Search.{position_from_yields_List}
use Rattle.coloring.proofs.corners.FlagLaws.{found}
use Rattle.coloring.proofs.corners.first_corner.Goals as goal

pub returns : goal.returns
returns c =
    let flags = c.args.flags.now in
    let e : c.position.result ≡ position (λ flag. flag) flags =
    position_from_yields_List (λ flag. flag) _ _ c.position.result c.position.ensures.ran (YieldsList-from_slice flags (cc))
    (λ x b q k. search (rules, tests)) in
    c.unwrap_or.ensures ∙ ap (λ place. unwrap_or place 0) e ∙ found flags
