-- An outcome is handed to C whole: its number, and its buffers as they are.
use mathlib.Core.Path.{◌≡◌, ap, ◌∙◌}
use mathlib.Core.List.{List}
use Prim.Native.Nat.{ℕ}
use Rattle.coloring.specs.Answers.{Answer}
use Rattle.coloring.specs.Fill.{FillOutcome, fill_outcome}
use Rattle.coloring.specs.declared.outline.Counts.{Counts}
use Rattle.coloring.specs.Outline.{Outcome, Result, outcome}
use Rattle.job.specs.declared.progress.Numbers.{Numbers}
use Rattle.job.specs.Buffers.{Buffers}
use Rattle.job.specs.Reader.{ReadOutcome, read_outcome}
use Rattle.capi.specs.Answers.{count_code, handed_buffer, hand_out_buffer}
use Rattle.capi.specs.EdgeColoring.{handed, hand_out}
use Rattle.capi.specs.JobFile.{read_code, numbers_after, handed_job, hand_out_job}

pub hands_out : (number : Answer Counts → ℕ) {code : ℕ} {answer : Answer Counts} {buffers : Result} {o : Outcome}
    → code ≡ number answer → outcome answer buffers ≡ o → handed code buffers ≡ hand_out number o
hands_out number {buffers} p q = ap (λ (k : ℕ). handed k buffers) p ∙ ap (hand_out number) q

pub hands_out_job : (old : List ℕ) {code : ℕ} {answer : Answer Numbers} {buffers : Buffers} {numbers : List ℕ} {o : ReadOutcome}
    → code ≡ read_code answer → numbers ≡ numbers_after answer old → read_outcome answer buffers ≡ o → handed_job code buffers numbers ≡ hand_out_job o old
hands_out_job old p n q = rw (p, n) (ap (λ (r : ReadOutcome). hand_out_job r old) q)

pub hands_out_buffer : {B : Type 0} {code : ℕ} {answer : Answer ℕ} {buffer : B} {o : FillOutcome B}
    → code ≡ count_code answer → fill_outcome answer buffer ≡ o → handed_buffer code buffer ≡ hand_out_buffer o
hands_out_buffer {buffer} p q = ap (λ (k : ℕ). handed_buffer k buffer) p ∙ ap hand_out_buffer q
