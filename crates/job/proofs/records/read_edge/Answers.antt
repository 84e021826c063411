-- `job::records::read_edge` meets its contract: the coordinates decide.
use Rattle.std.proofs.Common.{◌≡◌, ℕ, ◌*◌, ◌/◌, length, arith, sym, ap, ◌∙◌}
use Rattle.coloring.specs.Lists.{all}
use Rattle.job.specs.Patterns.{words, is_coordinate}
use Rattle.job.specs.Records.{read_edge, controls}
use Rattle.job.proofs.records.RecordLaws.{edge-found}
use Rattle.job.proofs.records.read_edge.Goals as goal
use Rattle.job.proofs.records.read_edge.Goals.{After-words_within}

-- the coordinates, tested
tested : (c : After-words_within) → c.words_within.result ≡ all is_coordinate (words (2 * controls c.args.kind) c.args.body.now)
tested c =
    let many : length c.args.body.now / 8 ≡ 2 * controls c.args.kind = omega (arith, c.requires) in
    c.words_within.ensures is_coordinate (λ x b p. p) ∙ ap (λ (n : ℕ). all is_coordinate (words n c.args.body.now)) many

pub returns-then-not-words_within : goal.returns-then-not-words_within
unfolding read_edge
returns-then-not-words_within c = rw (← tested (goal.at.returns-then-not-words_within c).After-words_within, c.if-not-words_within.true)

pub returns : goal.returns
returns c = edge-found _ _ (sym (tested (goal.at.returns c).After-words_within) ∙ c.if-not-words_within.false)
