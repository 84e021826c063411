-- What is left to check of a job that was read, and which files are accepted.
use mathlib.Core.Path.{◌≡◌, refl, sym, ap, ◌∙◌}
use mathlib.Core.Bool.{Bool, true, false}
use mathlib.Core.List.{List, [], ◌∷◌}
use Prim.Native.Nat.{ℕ, ◌≤◌}
use lib.Dec.{leb}
use lib.Ieee.{Float}
use lib.ListN.{length}
use borrow.Author.Tests.{le-leb}
use Rattle.std.specs.Prelude as Prelude
use Rattle.std.specs.Prelude.{Ok, Err}
use Rattle.std.specs.Result.{is_ok}
use Rattle.coloring.specs.declared.refusal.Refusal.{Refusal}
use Rattle.coloring.specs.PairOrder.{distances_valid}
use Rattle.coloring.specs.Limits.{max_splines, max_distances}
use Rattle.coloring.specs.SplineColors.{check_splines}
use Rattle.coloring.specs.declared.outline.Counts.{Counts}
use Rattle.coloring.specs.Outline.{Outline, Result, Outcome, result_fits, delivered, deliver}
use Rattle.coloring.specs.Shape.{counts_of}
use Rattle.coloring.specs.Splines.{spline_total}
use Rattle.coloring.specs.EdgeColoring.{collect_splines}
use Rattle.coloring.specs.Values.{check_marking}
use Rattle.coloring.specs.Answers.{Answer, gives, refusal, succeeds, Check, unless, in_order, first_refusal, all-passed, one_failed}
use Rattle.job.specs.declared.records.Strategy.{Strategy}
use Rattle.job.specs.declared.records.Strategy.TheVariants.{Simple, InkTrap, ByDistance}
use Rattle.job.specs.declared.progress.Numbers.{Numbers}
use Rattle.job.specs.Records.{by_distance}
use Rattle.job.specs.Job.{threshold_of, Job, Reading, read_job}
use Rattle.job.specs.Progress.{numbers_of, answer_of, read_answer}
use Rattle.job.specs.Buffers.{Buffers, outline_of, part_of, stored_job}
use Rattle.job.specs.Reader.{read_into}
use Rattle.job.specs.Color.{marking_by, laid_in, job_counts, check_job, check_reading, check_file, accept_reading}
use Rattle.job.specs.Color.{accept_job, accepted, paired, HoldsJobs, HoldsResults}
use Rattle.job.proofs.progress.ProgressLaws.{job_sound, contours-few, edges_few}
use Rattle.job.proofs.reader.DeliverLaws.{As-job, answer-refused}
use Rattle.job.proofs.color.ColorLaws.{Holding, part_is, collected, job_room}
use Rattle.job.proofs.AnswerLaws.{fits_numbered}

-- ---- by distance the number of splines decides

-- one distance a pair, counted, is one distance a pair of a job whose distances are valid
pairs-checked : (splines : ℕ) (ds : List Float) (counts : Counts) (written old : Result) → counts.splines ≡ splines → length ds ≤ max_distances
    → distances_valid ds ≡ true → result_fits written old ≡ true
    → paired (deliver (unless 4 (leb splines max_splines) ∷ []) counts written old).answer (length ds)
    ≡ in_order (check_splines splines ds) refusal (gives counts)
unfolding deliver delivered paired
pairs-checked splines ds counts written old e few valid room = go (leb splines max_splines) refl
  where
    go : (b : Bool) → leb splines max_splines ≡ b
        → paired (deliver (unless 4 (leb splines max_splines) ∷ []) counts written old).answer (length ds)
        ≡ in_order (check_splines splines ds) refusal (gives counts)
    go true h = rw (h, room, e, h, le-leb (length ds) max_distances few, valid)
    go false h = rw h

checked_by_distance : (file : List ℕ) (job : Job) → read_job file ≡ gives job → job.header.strategy ≡ ByDistance
    → check_file file ≡ in_order (check_splines (spline_total (laid_in job)) job.distances) refusal (gives (job_counts job))
unfolding check_file check_reading check_job
checked_by_distance file job e by = rw (e, by)

module _ {file : List ℕ} {n : Numbers} {old b : Buffers} (h : Holding file n old b) where
  pub held-checked : (threshold : Float) (out : Result) → HoldsResults out → n.header.strategy ≡ ByDistance → threshold ≡ threshold_of n.header
      → paired (collect_splines (outline_of (part_of n b)) threshold out).answer n.distances ≡ check_file file
  unfolding counts_of
  held-checked threshold out room asks e =
      let job = h.job in
      let so = job_sound file job h.is_read in
      ap (λ (x : Float). paired (collect_splines (outline_of (part_of n b)) x out).answer n.distances) e
      ∙ ap (λ (o : Outline). paired (collect_splines o (threshold_of n.header) out).answer n.distances) (ap outline_of (part_is h))
      ∙ ap (λ (m : Numbers). paired (collect_splines (outline_of (stored_job job)) (threshold_of m.header) out).answer m.distances) h.numbers
      ∙ ap (λ (o : Outcome). paired o.answer (length job.distances))
      (collected job so (contours-few file job h.is_read) (edges_few file job h.is_read) out)
      ∙ pairs-checked (spline_total (laid_in job)) job.distances _ _ out refl so.distances-few so.distances-valid
      (fits_numbered file out room job h.is_read)
      ∙ sym (checked_by_distance file job h.is_read (ap (λ (m : Numbers). m.header.strategy) (sym h.numbers) ∙ asks))

pub check_unread : (file : List ℕ) (number : ℕ) → refusal number ≡ answer_of (read_job file) → refusal number ≡ check_file file
unfolding check_file check_reading
check_unread file number e = rw (answer-refused (read_job file) number e)

pub paired_refused : (number distances : ℕ) → refusal number ≡ paired (refusal number) distances
unfolding paired
paired_refused number distances = refl

-- ---- which files are accepted

pub accept_edges : (reading : Reading) (n : Numbers) (counts : Counts) → gives n ≡ answer_of reading → gives counts ≡ check_reading reading
    → gives n ≡ answer_of (accept_reading reading)
unfolding accept_reading check_reading
accept_edges (refusal number) n counts told e = told
accept_edges (gives job) n counts told e = go (first_refusal (check_job job)) refl
  where
    go : (found : Answer Unit) → first_refusal (check_job job) ≡ found → gives n ≡ answer_of (in_order (check_job job) refusal (gives job))
    go (gives u) passed = rw (all-passed (check_job job) refusal (gives job) passed) told
    go (refusal number) failed = let no = e ∙ one_failed (check_job job) refusal (gives (job_counts job)) failed in cc

pub accept_refused : (reading : Reading) (number : ℕ) → refusal number ≡ check_reading reading → refusal number ≡ answer_of (accept_reading reading)
unfolding accept_reading check_reading
accept_refused (refusal other) number e = cc
accept_refused (gives job) number e = go (first_refusal (check_job job)) refl
  where
    go : (found : Answer Unit) → first_refusal (check_job job) ≡ found → refusal number ≡ answer_of (in_order (check_job job) refusal (gives job))
    go (gives u) passed = let no = e ∙ all-passed (check_job job) refusal (gives (job_counts job)) passed in cc
    go (refusal other) failed =
        let same = e ∙ one_failed (check_job job) refusal (gives (job_counts job)) failed in
        rw (one_failed (check_job job) refusal (gives job) failed) (cc)

-- a job without distances has nothing left to check
pub accept_plain : (reading : Reading) (n : Numbers) → gives n ≡ answer_of reading → by_distance n.header.strategy ≡ false
    → gives n ≡ answer_of (accept_reading reading)
unfolding accept_reading check_job
accept_plain (refusal number) n told h = told
accept_plain (gives job) n told h =
    let numbers : n ≡ numbers_of job = cc in
    go job.header.strategy (sym (ap (λ (m : Numbers). by_distance m.header.strategy) numbers) ∙ h)
  where
    checks : Strategy → List Check
    checks by = check_marking (marking_by by job.header.seed) (spline_total (laid_in job)) job.distances

    go : (by : Strategy) → by_distance by ≡ false → gives n ≡ answer_of (in_order (checks by) refusal (gives job))
    go Simple k = told
    go InkTrap k = told
    go ByDistance k = cc

pub accept_unread : (reading : Reading) (number : ℕ) → refusal number ≡ answer_of reading → refusal number ≡ answer_of (accept_reading reading)
unfolding accept_reading
accept_unread (gives job) number e = cc
accept_unread (refusal other) number e = e

-- an accepted file has the job that it reads as
from-accepted : (reading : Reading) (job : Job) → accept_reading reading ≡ gives job → reading ≡ gives job
unfolding accept_reading
from-accepted (refusal number) job e = e
from-accepted (gives other) job e = go (first_refusal (check_job other)) refl
  where
    go : (found : Answer Unit) → first_refusal (check_job other) ≡ found → ◌≡◌ {A = Reading} (gives other) (gives job)
    go (gives u) passed = sym (all-passed (check_job other) refusal (gives other) passed) ∙ e
    go (refusal number) failed = let no = sym (one_failed (check_job other) refusal (gives other) failed) ∙ e in cc

pub accept_same : (file : List ℕ) (n : Numbers) → As-job (accept_job file) n → read_job file ≡ accept_job file
unfolding accept_job
accept_same file n a = from-accepted (read_job file) a.job a.is_read ∙ sym a.is_read

-- what the code answers succeeds where the reading does
pub succeeds_ok : (answer : Prelude.Result Numbers Refusal) (reading : Reading) → read_answer answer ≡ answer_of reading → succeeds reading ≡ is_ok answer
succeeds_ok (Ok n) (gives job) e = refl
succeeds_ok (Ok n) (refusal number) e = cc
succeeds_ok (Err r) (gives job) e = cc
succeeds_ok (Err r) (refusal number) e = refl

pub accepted_same : (file : List ℕ) → accepted file ≡ true → read_job file ≡ accept_job file
accepted_same file h = go (accept_job file) refl h
  where
    go : (reading : Reading) → accept_job file ≡ reading → succeeds reading ≡ true → read_job file ≡ accept_job file
    go (gives job) e k = let read : read_job file ≡ gives job = (unfold accept_job in from-accepted (read_job file) job e) in read ∙ sym e
    go (refusal number) e k = cc

-- a file is accepted exactly where reading it into buffers with room answers a job
pub accepted_reads : (file : List ℕ) (old : Buffers) → HoldsJobs old → accepted file ≡ succeeds (read_into (accept_job file) old).answer
unfolding read_into
accepted_reads file old room = go (accept_job file) refl
  where
    go : (reading : Reading) → accept_job file ≡ reading → succeeds reading ≡ succeeds (read_into reading old).answer
    go (gives job) e = rw (job_room file job old (unfold accept_job in from-accepted (read_job file) job e) room)
    go (refusal number) e = refl
