-- From the answer of the first pass to what the reader delivers.
use mathlib.Core.Path.{◌≡◌, refl}
use mathlib.Core.Bool.{true, false}
use mathlib.Core.List.{List}
use Prim.Native.Nat.{ℕ, ◌≤◌}
use native.Mathlib.Omega.{arith}
use Rattle.coloring.specs.Limits.{max_edges}
use Rattle.coloring.specs.Answers.{gives, refusal}
use Rattle.job.specs.declared.progress.Numbers.{Numbers}
use Rattle.job.specs.Job.{Job, Reading, read_job}
use Rattle.job.specs.Progress.{numbers_of, answer_of}
use Rattle.job.specs.Buffers.{Buffers, has_room}
use Rattle.job.specs.Reader.{read_outcome, read_into, Fits, filled}
use Rattle.job.proofs.progress.ProgressLaws.{edges_few}

pub record As-job (reading : Reading) (n : Numbers) : Type 0 where
  pub job : Job
  pub is_read : reading ≡ gives job
  pub numbers : n ≡ numbers_of job

pub answer_job : (reading : Reading) (n : Numbers) → gives n ≡ answer_of reading → As-job reading n
answer_job (gives job) n e = record { job = job; is_read = refl; numbers = cc }
answer_job (refusal number) n e = let z : ◌≡◌ {A = ℕ} 0 1 = cc in absurd (omega arith)

pub answer-refused : (reading : Reading) (number : ℕ) → refusal number ≡ answer_of reading → reading ≡ refusal number
answer-refused (gives job) number e = cc
answer-refused (refusal other) number e = cc

pub answer-few : (file : List ℕ) (n : Numbers) → As-job (read_job file) n → n.edges ≤ max_edges
answer-few file n a = rw a.numbers (edges_few file a.job a.is_read)

pub delivers_refused : (reading : Reading) (old : Buffers) (number : ℕ) → reading ≡ refusal number → read_outcome (refusal number) old ≡ read_into reading old
unfolding read_into
delivers_refused reading old number e = rw e

module _ (reading : Reading) (n : Numbers) (a : As-job reading n) (old : Buffers) where
  pub delivers_short : has_room n old ≡ false → read_outcome (refusal 11) old ≡ read_into reading old
  unfolding read_into
  delivers_short h = let short : has_room (numbers_of a.job) old ≡ false = rw a.numbers at h in rw (a.is_read, short)

  pub fits_buffers : has_room n old ≡ true → Fits reading old
  fits_buffers h = let room : has_room (numbers_of a.job) old ≡ true = rw a.numbers at h in rw a.is_read room

  pub delivers_job : (b : Buffers) → has_room n old ≡ true → b ≡ filled reading old → read_outcome (gives n) b ≡ read_into reading old
  unfolding read_into
  delivers_job b h holds =
      let room : has_room (numbers_of a.job) old ≡ true = rw a.numbers at h in
      rw (holds, a.is_read, room, a.numbers)
