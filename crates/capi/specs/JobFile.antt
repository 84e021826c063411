-- The answers about a job file as C sees them: one number each, and the numbers of a job.
use Rattle.std.specs.Prelude.{ℕ, ◌+◌, ◌-◌, ◌*◌, ◌%◌, List, [], ◌∷◌}
use Rattle.coloring.specs.Answers.{Answer, gives, refusal}
use Rattle.coloring.specs.declared.settings.Division.{Division}
use Rattle.coloring.specs.declared.settings.Division.TheVariants.{Source, Balanced}
use Rattle.job.specs.declared.progress.Numbers.{Numbers}
use Rattle.job.specs.declared.part.Span.{Span}
use Rattle.job.specs.Records.{strategy_number}
use Rattle.job.specs.Buffers.{Buffers}
use Rattle.job.specs.Reader.{ReadOutcome}
use Rattle.capi.specs.Answers.{code_of}

-- 0, or 2^32 and the number of the refusal
abbrev pub read_code : Answer Numbers → ℕ
read_code = code_of (λ (n : Numbers). 0)

-- strategy, seed, the threshold's bits, and how many contours, edges and distances
abbrev pub job_values : Numbers → List ℕ
job_values n = strategy_number n.header.strategy ∷ n.header.seed ∷ n.header.threshold ∷ n.contours ∷ n.edges ∷ n.distances ∷ []

-- the numbers of a job; of a refused file as they came
abbrev pub numbers_after : Answer Numbers → List ℕ → List ℕ
numbers_after (gives n) old = job_values n
numbers_after (refusal number) old = old

-- a number, four buffers and the numbers at exit
pub record HandedJob : Type 0 where
  pub code : ℕ
  pub buffers : Buffers
  pub numbers : List ℕ

abbrev pub handed_job : ℕ → Buffers → List ℕ → HandedJob
handed_job code buffers numbers = record { code = code; buffers = buffers; numbers = numbers }

-- the outcome of reading, over numbers that stood there
abbrev pub hand_out_job : ReadOutcome → List ℕ → HandedJob
hand_out_job o old = handed_job (read_code o.answer) o.buffers (numbers_after o.answer old)

abbrev pub division_number : Division → ℕ
division_number Source = 0
division_number Balanced = 1

-- 1 where the teardrops of a job are balanced, else 0; or 2^32 and the number of the refusal
abbrev pub balanced_code : Answer Numbers → ℕ
balanced_code = code_of (λ (n : Numbers). division_number n.division)

-- the place of the first byte, and 2^32 times the number of bytes
abbrev pub place_code : Span → ℕ
place_code span = span.start % 4294967296 + 4294967296 * ((span.end - span.start) % 4294967296)
