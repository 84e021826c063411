-- A job, and the function from the bytes of a file to a job or its first refusal (SCOPE, Job file).
use Rattle.std.specs.Prelude.{ℕ, ◌<◌, ◌^◌, ◌≡◌, Bool, true, cond, Float}
use mathlib.Core.List.{List, [], ◌∷◌, ◌++◌, map, flatten}
use Rattle.std.specs.Float.{binary64}
use Rattle.std.specs.Float.Ieee.{fits, of_bits}
use Rattle.geometry.specs.declared.edge_segment.EdgeSegment.{EdgeSegment}
use Rattle.coloring.specs.Answers.{Answer, gives, refusal}
use Rattle.coloring.specs.Lists.{all}
use Rattle.coloring.specs.declared.settings.Division.{Division}
use Rattle.coloring.specs.declared.settings.Division.TheVariants.{Source, Balanced}
use Rattle.job.specs.declared.records.Mark.TheVariants.{End}
use Rattle.job.specs.declared.records.Header.{Header}
use Rattle.job.specs.Records.{no_header, by_distance, marked, bytes_of, coordinates, Record, header, balanced, contour, edge, distances}
use Rattle.job.specs.Records.{Records, complete, fault, ◌then◌, start, records_from}

pub record Job : Type 0 where
  pub header : Header
  pub division : Division
  pub contours : List (List EdgeSegment)
  pub distances : List Float

-- what a file begins with
abbrev pub no_job : Job
no_job = record { header = no_header; division = Source; contours = []; distances = [] }

-- the threshold of a header, which holds its bit pattern
abbrev pub threshold_of : Header → Float
threshold_of h = of_bits binary64 h.threshold

-- an edge more in the last contour
unfoldable pub with_edge : List (List EdgeSegment) → EdgeSegment → List (List EdgeSegment)
with_edge [] e = []
with_edge (c ∷ []) e = (c ++ (e ∷ [])) ∷ []
with_edge (c ∷ d ∷ contours) e = c ∷ with_edge (d ∷ contours) e

-- a job with a record more
unfoldable pub with_record : Job → Record → Job
unfolding with_edge
with_record job (header h) = record job { header = h }
with_record job balanced = record job { division = Balanced }
with_record job contour = record job { contours = job.contours ++ ([] ∷ []) }
with_record job (edge e) = record job { contours = with_edge job.contours e }
with_record job (distances ds) = record job { distances = ds }

-- what reading a file gives: its job, or the number of its first refusal
abbrev pub Reading : Type 0
Reading = Answer Job

-- the job of some records, from what was read before them
unfoldable pub job_from : Job → Records → Reading
unfolding with_record
job_from job complete = gives job
job_from job (fault number) = refusal number
job_from job (r then rest) = job_from (with_record job r) rest

unfoldable pub read_job : List ℕ → Reading
unfolding job_from records_from
read_job file = job_from no_job (records_from start file)

-- ---- and back: the records of a job, in order, and its file

abbrev pub contour_records : List EdgeSegment → List Record
contour_records edges = contour ∷ map edge edges

-- BL where the division is balanced
abbrev pub division_records : Division → List Record
division_records Source = []
division_records Balanced = balanced ∷ []

unfoldable pub outline_records : Header → Division → List (List EdgeSegment) → List Record
unfolding flatten
outline_records h division contours = header h ∷ (division_records division ++ flatten (map contour_records contours))

-- DS for strategy 3 only
unfoldable pub records_of : Job → List Record
unfolding outline_records
records_of job =
    outline_records job.header job.division job.contours ++ cond (by_distance job.header.strategy) (distances job.distances ∷ []) []

unfoldable pub record_bytes : List Record → List ℕ
unfolding bytes_of
record_bytes [] = []
record_bytes (r ∷ rs) = bytes_of r ++ record_bytes rs

unfoldable pub file_of : Job → List ℕ
unfolding records_of record_bytes
file_of job = record_bytes (records_of job) ++ marked End []

-- ---- what a file can hold: the logic's floats and numbers have values that 64 bits do not have

abbrev pub doubles : List Float → Bool
doubles xs = all (fits binary64) xs

pub record Holdable (job : Job) : Type 0 where
  pub seed : job.header.seed < 2 ^ 64
  pub threshold : job.header.threshold < 2 ^ 64
  pub coordinates_are : all (λ (e : EdgeSegment). doubles (coordinates e)) (flatten job.contours) ≡ true
  pub distances_are : doubles job.distances ≡ true
