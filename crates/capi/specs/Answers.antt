-- An answer as C sees it, one number: a number of its value, or 2^32 and the number of the refusal.
use Rattle.std.specs.Prelude.{ℕ, ◌+◌, Result, Ok, Err}
use Rattle.coloring.specs.Refusal.{refusal_number}
use Rattle.coloring.specs.declared.refusal.Refusal.{Refusal}
use Rattle.coloring.specs.Answers.{Answer, gives, refusal}
use Rattle.coloring.specs.Fill.{FillOutcome}

-- what the number of a refusal is added to
abbrev pub refused_from : ℕ
refused_from = 4294967296

abbrev pub code_of : {A : Type 0} → (A → ℕ) → Answer A → ℕ
code_of number (gives a) = number a
code_of number (refusal n) = refused_from + n

-- what was counted
abbrev pub count_code : Answer ℕ → ℕ
count_code = code_of (λ n. n)

-- the same of the code's answer
abbrev pub number_code : Result ℕ Refusal → ℕ
number_code (Ok n) = n
number_code (Err r) = refused_from + refusal_number r

-- a number and what a call fills, at exit
pub record HandedBuffer (B : Type 0) : Type 0 where
  pub code : ℕ
  pub buffer : B

abbrev pub handed_buffer : {B : Type 0} → ℕ → B → HandedBuffer B
handed_buffer code buffer = record { code = code; buffer = buffer }

abbrev pub hand_out_buffer : {B : Type 0} → FillOutcome B → HandedBuffer B
hand_out_buffer o = handed_buffer (count_code o.answer) o.buffer
