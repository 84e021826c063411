-- The part of a file that is one contour (SCOPE, Job file): from its CT up to the next CT, DS or EN.
use Rattle.std.specs.Prelude.{ℕ, zero, suc, ◌+◌, ◌-◌, ◌≤◌, cond, List, [], ltb, length, take, drop, get_or}
use Rattle.coloring.specs.Answers.{gives, refusal}
use Rattle.job.specs.declared.records.Item.{Item}
use Rattle.job.specs.declared.records.Item.TheVariants.{Header, Balanced, Contour, Edge, Distances}
use Rattle.job.specs.declared.part.Span.{Span}
use Rattle.job.specs.declared.part.Seek.{Seek}
use Rattle.job.specs.declared.part.Seek.TheVariants.{Passing, Open, Done}
use Rattle.job.specs.Job.{Job, Reading, contour_records, outline_records, record_bytes}
use Rattle.job.specs.Color.{accept_job}

abbrev pub nowhere : Span
nowhere = record { start = 0; end = 0 }

-- the records of a contour stand after those of JB, of BL and of the contours before it
unfoldable pub span_in : Job → ℕ → Span
unfolding outline_records record_bytes
span_in job number =
    let start = length (record_bytes (outline_records job.header job.division (take number job.contours))) in
    record { start = start; end = start + length (record_bytes (contour_records (get_or job.contours number []))) }

abbrev pub place_in : Reading → ℕ → Span
place_in (gives job) number = cond (ltb number (length job.contours)) (span_in job number) nowhere
place_in (refusal reason) number = nowhere

-- where its bytes stand: nowhere for a refused file or a number too large
unfoldable pub contour_place : List ℕ → ℕ → Span
unfolding accept_job span_in
contour_place file number = place_in (accept_job file) number

unfoldable pub contour_part : List ℕ → ℕ → List ℕ
unfolding contour_place
contour_part file number =
    let span = contour_place file number in
    take (span.end - span.start) (drop span.start file)

-- ---- in the words of contracts

-- the search, record by record: the contour begins at the CT with none left to pass, and ends at the first record
-- that is no edge
unfoldable pub sought : Seek → ℕ → Item → Seek
sought (Passing zero) at Contour = Open at
sought (Passing (suc left)) at Contour = Passing left
sought (Passing left) at (Header h) = Passing left
sought (Passing left) at Balanced = Passing left
sought (Passing left) at (Edge kind) = Passing left
sought (Passing left) at (Distances count) = Passing left
sought (Open from) at (Edge kind) = Open from
sought (Open from) at _ = Done (record { start = from; end = at })
sought (Done span) at item = Done span

-- what was found when the records end at a place; nothing where there are too few contours
abbrev pub span_of : Seek → ℕ → Span
span_of (Passing left) at = nowhere
span_of (Open from) at = record { start = from; end = at }
span_of (Done span) at = span

-- a span lies before a place
pub record Inside (span : Span) (place : ℕ) : Type 0 where
  pub ordered : span.start ≤ span.end
  pub within : span.end ≤ place
