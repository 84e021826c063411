-- What colouring a job gives, and reading and colouring a file in one (SCOPE, Refusals: a file read to its end).
use Rattle.std.specs.Prelude.{ℕ, ◌-◌, ◌*◌, ◌/◌, ◌≤◌, Bool, List, [], ◌∷◌, map, leb, eqb, length}
use Rattle.geometry.specs.declared.edge_segment.EdgeSegment.{EdgeSegment}
use Rattle.coloring.specs.Limits.{max_contours, max_edges, max_result_edges, max_splines, max_distances}
use Rattle.coloring.specs.declared.outline.Counts.{Counts}
use Rattle.coloring.specs.declared.settings.Strategy.TheVariants.{Simple, InkTrap}
use Rattle.coloring.specs.declared.settings.Marking.{Marking}
use Rattle.coloring.specs.declared.settings.Marking.TheVariants.{Colors, Distances}
use Rattle.coloring.specs.declared.settings.Settings.{Settings}
use Rattle.coloring.specs.Corners.{Cornered, Found, find_corners, edges_in, flags_in}
use Rattle.coloring.specs.Layout.{layout}
use Rattle.coloring.specs.Splines.{spline_total, paint_contours}
use Rattle.coloring.specs.Values.{spline_values, middle_value, check_marking}
use Rattle.coloring.specs.Outline.{Result, Outcome, outcome, encode, deliver}
use Rattle.coloring.specs.Shape.{counts_of}
use Rattle.coloring.specs.EdgeColoring.{settings_of}
use Rattle.coloring.specs.Answers.{Answer, gives, refusal, succeeds, Check, unless, in_order}
use Rattle.job.specs.declared.progress.Numbers as Numbers
use Rattle.job.specs.declared.records.Strategy.{Strategy}
use Rattle.job.specs.declared.records.Strategy.TheVariants as strategy
use Rattle.job.specs.Job.{threshold_of, Job, Reading, read_job}
use Rattle.job.specs.Buffers.{Buffers}
use Rattle.job.specs.Limits.{max_places, max_result_places}

-- ---- a job

-- how edges are marked by a strategy, with a seed
abbrev pub marking_by : Strategy → ℕ → Marking
marking_by strategy.Simple seed = Colors Simple seed
marking_by strategy.InkTrap seed = Colors InkTrap seed
marking_by strategy.ByDistance seed = Distances seed

-- how its edges are marked
abbrev pub marking_of : Job → Marking
marking_of job = marking_by job.header.strategy job.header.seed

-- the corners and the stand-ins of its contours
abbrev pub corners_in : Job → Found
corners_in job = find_corners (threshold_of job.header) job.contours

-- its contours with their corners, laid out
unfoldable pub laid_in : Job → List Cornered
unfolding find_corners layout
laid_in job = map layout (corners_in job).contours

-- what they come to
abbrev pub job_counts : Job → Counts
job_counts job = counts_of (laid_in job) (corners_in job).stand_ins

-- what is left to check of a job that was read, for strategy 3 only: splines 4, then the distances
unfoldable pub check_job : Job → List Check
unfolding laid_in spline_total
check_job job = check_marking (marking_of job) (spline_total (laid_in job)) job.distances

-- the edges of its coloured shape, contour by contour
unfoldable pub colored_edges : Job → List (List EdgeSegment)
unfolding laid_in
colored_edges job = edges_in (laid_in job)

-- the colour of each of them, as a byte
unfoldable pub edge_colors : Job → List (List ℕ)
unfolding laid_in spline_values paint_contours
edge_colors job =
    paint_contours job.division (middle_value (marking_of job)) (spline_values (marking_of job) job.distances (laid_in job)) (flags_in (laid_in job))

-- the coloured shape as it is stored
unfoldable pub colored : Job → Result
unfolding colored_edges edge_colors encode
colored job = encode (colored_edges job) (edge_colors job)

-- answer and buffers: the first refusal, 11 last; or the coloured shape
unfoldable pub color_job : Job → Result → Outcome
unfolding find_corners laid_in check_job colored counts_of deliver
color_job job old = deliver (check_job job) (job_counts job) (colored job) old

-- ---- a file

unfoldable pub color_reading : Reading → Result → Outcome
unfolding color_job
color_reading (gives job) old = color_job job old
color_reading (refusal number) old = outcome (refusal number) old

unfoldable pub color_file : List ℕ → Result → Outcome
unfolding read_job color_reading
color_file file = color_reading (read_job file)

-- the answer where every result has room: what the result comes to, or the first refusal
unfoldable pub check_reading : Reading → Answer Counts
unfolding in_order find_corners laid_in check_job counts_of
check_reading (gives job) = in_order (check_job job) refusal (gives (job_counts job))
check_reading (refusal number) = refusal number

unfoldable pub check_file : List ℕ → Answer Counts
unfolding read_job check_reading
check_file file = check_reading (read_job file)

-- the job of an accepted file, or its first refusal: that of reading, then that of the checks
unfoldable pub accept_reading : Reading → Reading
unfolding in_order check_job
accept_reading (gives job) = in_order (check_job job) refusal (gives job)
accept_reading (refusal number) = refusal number

unfoldable pub accept_job : List ℕ → Reading
unfolding read_job accept_reading
accept_job file = accept_reading (read_job file)

-- accepted: reading and colouring give no number other than 11
abbrev pub accepted : List ℕ → Bool
accepted file = succeeds (accept_job file)

-- ---- in the words of contracts

-- what a job with these numbers asks of the colouring of its outline
abbrev pub job_settings : Numbers.Numbers → Settings
job_settings n = settings_of n.division (marking_by n.header.strategy n.header.seed) (threshold_of n.header)

-- what was counted, where it has few enough splines and a distance for each pair of them
unfoldable pub paired : Answer Counts → ℕ → Answer Counts
unfolding in_order
paired (gives counts) distances =
    let splines = counts.splines in
    in_order (unless 4 (leb splines max_splines) ∷ unless 8 (eqb distances (splines * (splines - 1) / 2)) ∷ []) refusal (gives counts)
paired (refusal number) distances = refusal number

-- four buffers that hold every job
pub record HoldsJobs (b : Buffers) : Type 0 where
  pub lengths_fit : max_contours ≤ length b.lengths
  pub kinds_fit : max_edges ≤ length b.kinds
  pub points_fit : max_places ≤ length b.points
  pub distances_fit : max_distances ≤ length b.distances

-- four buffers that hold every result
pub record HoldsResults (b : Result) : Type 0 where
  pub lengths_fit : max_contours ≤ length b.lengths
  pub kinds_fit : max_result_edges ≤ length b.kinds
  pub points_fit : max_result_places ≤ length b.points
  pub colors_fit : max_result_edges ≤ length b.colors
