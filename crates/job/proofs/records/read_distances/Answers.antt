-- `job::records::read_distances` meets its contract: the count, the bytes that it asks for, then the distances.
use Rattle.std.proofs.Common.{◌≡◌, ℕ, ◌*◌, ◌/◌, ◌≤◌, length, take, arith, sym, ap, ◌∙◌, le-leb, length-take-le}
use Rattle.std.proofs.lemmas.Bool.{lt-leb}
use Rattle.coloring.specs.Lists.{all}
use Rattle.job.specs.Patterns.{number, words, is_distance}
use Rattle.job.specs.Records.{read_distances}
use Rattle.job.proofs.patterns.PatternLaws.{two, words-taken}
use Rattle.job.proofs.records.RecordLaws.{distances-found}
use Rattle.job.proofs.records.read_distances.Goals as goal
use Rattle.job.proofs.records.read_distances.Goals.{After-from-distances, After-words_within}

counted : (c : After-from-distances) → c.from-distances.result ≡ number c.args.body.now
counted c = c.from-distances.ensures ∙ c.from_le_bytes-count.ensures ∙ two c.args.body.now c.requires

-- the distances, tested
tested : (c : After-words_within) → c.words_within.result ≡ all is_distance (words c.from-distances.result c.args.rest.now)
tested c =
    let count = c.from-distances.result in
    let rest = c.args.rest.now in
    let few : 8 * count ≤ length rest = c.if-rest-distances.false in
    let many : length (take (8 * count) rest) / 8 ≡ count = rw (length-take-le (8 * count) rest few) (omega arith) in
    c.words_within.ensures is_distance (λ x b p. p)
    ∙ ap (λ (n : ℕ). all is_distance (words n (take (8 * count) rest))) many ∙ ap (all is_distance) (words-taken count rest few)

pub returns-then-distances-gt-MAX_DISTANCES : goal.returns-then-distances-gt-MAX_DISTANCES
unfolding read_distances
returns-then-distances-gt-MAX_DISTANCES c =
    rw (← counted (goal.at.returns-then-distances-gt-MAX_DISTANCES c).After-from-distances, lt-leb _ 2016 c.if-distances-gt-MAX_DISTANCES.true)

pub returns-then-rest-distances : goal.returns-then-rest-distances
unfolding read_distances
returns-then-rest-distances c =
    rw (
      ← counted (goal.at.returns-then-rest-distances c).After-from-distances,
      le-leb _ 2016 c.if-distances-gt-MAX_DISTANCES.false,
      lt-leb _ _ c.if-rest-distances.true,
    )

pub returns-then-not-words_within : goal.returns-then-not-words_within
unfolding read_distances
returns-then-not-words_within c =
    rw (
      ← counted (goal.at.returns-then-not-words_within c).After-from-distances,
      le-leb _ 2016 c.if-distances-gt-MAX_DISTANCES.false,
      le-leb _ _ c.if-rest-distances.false,
      ← tested (goal.at.returns-then-not-words_within c).After-words_within,
      c.if-not-words_within.true,
    )

pub returns : goal.returns
returns c =
    rw (← c.from-distances.ensures)
    (distances-found _ _ _ (counted (goal.at.returns c).After-from-distances) (le-leb _ 2016 c.if-distances-gt-MAX_DISTANCES.false)
    (le-leb _ _ c.if-rest-distances.false) (sym (tested (goal.at.returns c).After-words_within) ∙ c.if-not-words_within.false))
