-- `coordinates_fit` meets its contract: the chain tests each kind with its eight places.
use Rattle.std.proofs.Common.{◌≡◌, ℕ, ◌/◌, List, length, take, Float, rules, tests, arith, ◌∙◌}
use Rattle.std.specs.List.{list_all}
use Rattle.std.specs.Simd.{first_chunks}
use Rattle.std.proofs.lemmas.Iterator.{YieldsList-from_slice, YieldsList-from_zip}
use Rattle.std.proofs.lemmas.Iterator.Search.{all_from_yields_List}
use Rattle.coloring.specs.Outline.{in_range, used_places}
use Rattle.coloring.proofs.outline.CheckLaws.{fit_pairs}
use Rattle.coloring.proofs.outline.coordinates_fit.Goals as goal

pub returns : goal.returns
returns c =
    let kinds = c.args.kinds.now in
    let points = c.args.points.now in
    let n : length points / 8 ≡ length kinds = omega arith in
    all_from_yields_List {s = c.zip.result} (λ (p : ℕ × List Float). list_all in_range (take (used_places p.0) p.1))
    c.all.new.self _ c.all.result c.all.ensures.ran
    (YieldsList-from_zip (YieldsList-from_slice kinds (cc)) (YieldsList-from_slice (first_chunks 8 (length points / 8) points) (cc)))
    (λ x b q k. (search (rules, tests), search (rules, tests)))
    ∙ rw n (fit_pairs kinds points c.requires.1)
