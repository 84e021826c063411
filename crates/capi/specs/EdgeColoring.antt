-- How the outcome of a colouring is handed to C: the answer as one number, and the four result buffers.
use Rattle.std.specs.Prelude.{ℕ, ◌+◌, ◌*◌, ◌/◌, ◌%◌, ◌<◌, ◌≡◌}
use Rattle.std.proofs.Common.{arith}
use Rattle.coloring.specs.Answers.{Answer}
use Rattle.coloring.specs.declared.outline.Counts.{Counts}
use Rattle.coloring.specs.Outline.{Outcome, Result}
use Rattle.capi.specs.Answers.{code_of}

-- edges, splines and stand-ins in one number, 16 bits each: 2^16 times the splines, 2^48 times the stand-ins
abbrev pub packed : ℕ → ℕ → ℕ → ℕ
packed edges splines stand_ins = edges % 65536 + 65536 * (splines % 65536) + 281474976710656 * (stand_ins % 65536)

-- the edges and the stand-ins, or 2^32 and the number of the refusal
abbrev pub colored_code : Answer Counts → ℕ
colored_code = code_of (λ (counts : Counts). packed counts.edges 0 counts.stand_ins)

-- the same with the splines
abbrev pub collected_code : Answer Counts → ℕ
collected_code = code_of (λ (counts : Counts). packed counts.edges counts.splines counts.stand_ins)

-- what a host takes out of such a number: each part, which has at most 16 bits
module _ (edges splines stand_ins : ℕ) where
  abbrev code : ℕ
  code = packed edges splines stand_ins

  pub edges-out : edges < 65536 → code % 65536 ≡ edges
  edges-out h = omega arith

  pub splines-out : splines < 65536 → code / 65536 % 65536 ≡ splines
  splines-out h = omega arith

  pub stand_ins_out : stand_ins < 65536 → code / 281474976710656 ≡ stand_ins
  stand_ins_out h = omega arith

  -- and that it is no refusal, whatever the parts are
  pub no_refusal : code / 4294967296 % 65536 ≡ 0
  no_refusal = omega arith

-- while a refusal is one
pub a-refusal : (number : ℕ) → number < 4294967296 → (4294967296 + number) / 4294967296 ≡ 1
a-refusal number h = omega arith

pub record Handed : Type 0 where
  pub code : ℕ
  pub buffers : Result

-- a number and the buffers at exit
abbrev pub handed : ℕ → Result → Handed
handed code buffers = record { code = code; buffers = buffers }

-- an outcome, its answer as a number
abbrev pub hand_out : (Answer Counts → ℕ) → Outcome → Handed
hand_out code o = handed (code o.answer) o.buffers
