-- What the reader makes of a file: the numbers of its job, and the buffers for its contours and distances.
use Rattle.std.specs.Prelude.{ℕ, ◌≡◌, true, cond, Float}
use Rattle.coloring.specs.Answers.{Answer, gives, refusal}
use Rattle.job.specs.declared.progress.Numbers.{Numbers}
use Rattle.job.specs.Job.{Reading}
use Rattle.job.specs.Progress.{numbers_of}
use Rattle.coloring.specs.Outline.{MutBuffer}
use Rattle.job.specs.Buffers.{Buffers, buffers, stored_job, over_each, room_for, has_room}

-- ---- the answer and the buffers

pub record ReadOutcome : Type 0 where
  pub answer : Answer Numbers
  pub buffers : Buffers

abbrev pub read_outcome : Answer Numbers → Buffers → ReadOutcome
read_outcome answer buffers = record { answer = answer; buffers = buffers }

-- the refusal of an accepted reading; 11 where a buffer is too short; or the job, each buffer over what stood there
unfoldable pub read_into : Reading → Buffers → ReadOutcome
unfolding room_for over_each stored_job
read_into (refusal number) old = read_outcome (refusal number) old
read_into (gives job) old =
    cond (has_room (numbers_of job) old) (read_outcome (gives (numbers_of job)) (over_each (stored_job job) old)) (read_outcome (refusal 11) old)

-- ---- in the words of contracts

-- of buffers that are passed one by one: the four buffers of a job at entry and at exit
abbrev pub job_at_entry : MutBuffer ℕ → MutBuffer ℕ → MutBuffer Float → MutBuffer Float → Buffers
job_at_entry lengths kinds points distances = buffers lengths.entry.now kinds.entry.now points.entry.now distances.entry.now

abbrev pub job_at_exit : MutBuffer ℕ → MutBuffer ℕ → MutBuffer Float → MutBuffer Float → Buffers
job_at_exit lengths kinds points distances = buffers lengths.exit.now kinds.exit.now points.exit.now distances.exit.now

-- a file is read, and its job has room
abbrev pub Fits : Reading → Buffers → Type 0
Fits (refusal number) old = ⊥
Fits (gives job) old = has_room (numbers_of job) old ≡ true

abbrev pub filled : Reading → Buffers → Buffers
filled (refusal number) old = old
filled (gives job) old = over_each (stored_job job) old
