-- How far a file is read, and the numbers of its job.
use Rattle.std.specs.Prelude.{ℕ, ◌+◌, ◌<◌, ◌^◌, length, Result, Ok, Err}
use mathlib.Core.List.{List, flatten}
use Rattle.geometry.specs.declared.edge_segment.EdgeSegment.{EdgeSegment}
use Rattle.coloring.specs.Refusal.{refusal_number}
use Rattle.coloring.specs.declared.refusal.Refusal.{Refusal}
use Rattle.coloring.specs.Answers.{Answer, gives, refusal}
use Rattle.job.specs.declared.records.Item.{Item}
use Rattle.job.specs.declared.progress.Numbers.{Numbers}
use Rattle.job.specs.declared.progress.Progress.{Progress}
use Rattle.job.specs.Records.{start, after}
use Rattle.job.specs.Job.{Job, Reading}

-- ---- the numbers of a job

abbrev pub edge_count : List (List EdgeSegment) → ℕ
edge_count contours = length (flatten contours)

abbrev pub numbers_of : Job → Numbers
numbers_of job = record {
  header = job.header;
  division = job.division;
  contours = length job.contours;
  edges = edge_count job.contours;
  distances = length job.distances;
}

-- what is answered of a file: the numbers of its job, or the number of a refusal
abbrev pub read_answer : Result Numbers Refusal → Answer Numbers
read_answer (Ok n) = gives n
read_answer (Err r) = refusal (refusal_number r)

abbrev pub answer_of : Reading → Answer Numbers
answer_of (gives job) = gives (numbers_of job)
answer_of (refusal number) = refusal number

-- ---- how far a file is read

abbrev pub begin : Progress
begin = record { at = 0; state = start }

-- one record further, which takes so many bytes
abbrev pub advanced : Progress → Item → ℕ → Progress
advanced p item size = record { at = p.at + size; state = after p.state item }

-- one record further is still a place and a count
pub record CanAdvance (p : Progress) (size : ℕ) : Type 0 where
  pub place : p.at + size < 2 ^ 64
  pub contours : p.state.numbers.contours < 65536
  pub edges : p.state.numbers.edges < 65536
