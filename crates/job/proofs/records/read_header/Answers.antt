-- `job::records::read_header` meets its contract: the strategy, then the threshold, whose pattern comes back from its
-- float.
use Rattle.std.proofs.Common.{◌≡◌, ℕ, ◌-◌, ◌*◌, ◌/◌, List, [], length, get_or, take, drop, length-drop, ◌<◌, arith, sym, ap, ◌∙◌}
use Rattle.std.specs.Int.{w64, from_le_bytes}
use lib.Seq.{drop-drop}
use Rattle.std.proofs.lemmas.List.{take_rest}
use Rattle.job.specs.Patterns.{number}
use Rattle.job.specs.Records.{read_header}
use Rattle.job.proofs.PassedOn.{passed_on}
use Rattle.job.proofs.patterns.PatternLaws.{word_at}
use Rattle.job.proofs.records.RecordLaws.{Strategic, numbered_ok, numbered_err, header-found}
use Rattle.job.proofs.records.read_header.Goals as goal
use Rattle.job.proofs.records.read_header.Goals.{After-is_threshold}

module _ (c : After-is_threshold) where
  abbrev body : List ℕ
  body = c.args.body.now

  strategic : Strategic (get_or body 0 0) c.in_ok-strategy.strategy
  strategic = numbered_ok (get_or body 0 0) c.in_ok-strategy.strategy (sym c.in_ok-strategy.was ∙ c.try_from.ensures)

  -- the words after the strategy
  abbrev ahead : List ℕ
  ahead = take (length body - 1) (drop 1 body)

  word : (i : ℕ) → i < 2 → from_le_bytes w64 (get_or c.as_chunks.result.0.now i []) ≡ number (take 8 (drop (8 * i) (drop 1 body)))
  word i h =
      let long : length ahead ≡ 16 = ap length (take_rest body 1) ∙ length-drop 1 body ∙ omega (arith, c.requires) in
      ap (λ (words : List (List ℕ)). from_le_bytes w64 (get_or words i [])) c.as_chunks.ensures.front
      ∙ word_at (length ahead / 8) i ahead (omega arith) (omega arith) ∙ ap (λ (x : List ℕ). number (take 8 (drop (8 * i) x))) (take_rest body 1)

  threshold_is : c.from_le_bytes-threshold.result ≡ number (take 8 (drop 9 body))
  threshold_is = c.from_le_bytes-threshold.ensures ∙ word 1 (omega arith) ∙ ap (λ (x : List ℕ). number (take 8 x)) (drop-drop 8 1 body)

  seed_is : c.from_le_bytes-seed.result ≡ number (take 8 (drop 1 body))
  seed_is = c.from_le_bytes-seed.ensures ∙ word 0 (omega arith)

pub returns-in_err-strategy : goal.returns-in_err-strategy
unfolding read_header
returns-in_err-strategy c =
    let q = numbered_err (get_or c.args.body.now 0 0) c.in_err-strategy.field-0.0 (sym c.in_err-strategy.was ∙ c.try_from.ensures) in
    rw (passed_on c.from_residual.result c.from_residual.ensures.1, q.0, q.1)

pub returns-then-not-is_threshold : goal.returns-then-not-is_threshold
unfolding read_header
returns-then-not-is_threshold c =
    let tested = (goal.at.returns-then-not-is_threshold c).After-is_threshold in
    rw ((strategic tested).known, ← threshold_is tested, ← c.is_threshold.ensures, c.if-not-is_threshold.true)

pub returns : goal.returns
returns c =
    let tested = (goal.at.returns c).After-is_threshold in
    header-found _ _ (strategic tested) (seed_is tested) (threshold_is tested) (sym c.is_threshold.ensures ∙ c.if-not-is_threshold.false)
