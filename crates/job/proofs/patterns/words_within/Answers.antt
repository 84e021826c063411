-- `job::patterns::words_within` meets its contract: the chain tests each number.
use Rattle.std.proofs.Common.{ℕ, ◌/◌, List, length, rules, tests, arith, ◌∙◌}
use Rattle.std.specs.Int.{from_le_bytes, w64}
use Rattle.std.specs.Simd.{first_chunks}
use Rattle.std.proofs.lemmas.Iterator.{YieldsList-from_slice}
use Rattle.std.proofs.lemmas.Iterator.Search.{all_from_yields_List}
use Rattle.job.proofs.patterns.PatternLaws.{all_words}
use Rattle.job.proofs.patterns.words_within.Goals as goal

pub returns : goal.returns
returns g c = λ test decides.
    let bytes = c.args.bytes.now in
    let n = length bytes / 8 in
    all_from_yields_List (λ (word : List ℕ). test (from_le_bytes w64 word)) _ _ c.all.result c.all.ensures.ran
    (YieldsList-from_slice (first_chunks 8 n bytes) (cc)) (λ x b q k. (search (rules, tests), search (rules, tests, decides)))
    ∙ all_words test n bytes (omega arith)
