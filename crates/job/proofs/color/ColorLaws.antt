-- A job that was read passes the checks of an outline, and its buffers hold its contours: so colouring the buffers is
-- colouring the job.
use mathlib.Core.Path.{◌≡◌, refl, sym, ap, ◌∙◌}
use mathlib.Core.Bool.{Bool, true, false, ◌&&◌}
use mathlib.Core.List.{List, [], ◌∷◌, map, map-append, flatten}
use Prim.Native.Nat.{ℕ, ◌*◌, ◌≤◌}
use native.Mathlib.Omega.{arith}
use lib.Dec.{leb}
use lib.Ieee.{Float}
use lib.ListN.{length, length-map}
use borrow.Author.Tests.{le-leb, eq-eqb}
use Rattle.geometry.specs.EdgeSegment.{to_stored, from_stored}
use Rattle.geometry.specs.declared.edge_segment.EdgeSegment.{EdgeSegment}
use Rattle.geometry.specs.declared.edge_segment.EdgeSegment.TheVariants as segment
use Rattle.coloring.specs.Limits.{max_contours, max_edges, max_splines, max_distances}
use Rattle.coloring.specs.Lists.{all}
use Rattle.coloring.specs.declared.settings.Marking.{Marking}
use Rattle.coloring.specs.declared.settings.Marking.TheVariants.{Numbers}
use Rattle.coloring.specs.declared.settings.Division.{Division}
use Rattle.coloring.specs.declared.settings.Division.TheVariants.{Source}
use Rattle.coloring.specs.declared.settings.Settings.{Settings}
use Rattle.coloring.specs.Values.{spline_values, middle_value}
use Rattle.coloring.specs.Splines.{spline_total}
use Rattle.coloring.specs.Outline as outline
use Rattle.coloring.specs.Outline.{Outline, Result, outcome, edge_stored, contours, known_kind, coordinates_fit, check, deliver}
use Rattle.coloring.specs.Shape.{painted, deliver_found}
use Rattle.coloring.specs.Sizes.{sizes, cut_again, flatten-length, points-length}
use Rattle.coloring.specs.EdgeColoring.{edge_coloring, settings_of, collect_splines}
use Rattle.coloring.specs.DeliverLaws.{found_passed}
use Rattle.coloring.specs.Answers.{gives, refusal, all_pass, unless, first_refusal}
use Rattle.job.specs.declared.progress.Numbers.{Numbers as JobNumbers}
use Rattle.job.specs.Job.{threshold_of, Job, read_job}
use Rattle.job.specs.Progress.{edge_count, numbers_of, answer_of}
use Rattle.job.specs.Buffers.{Buffers, outline_of, part_of, kinds_stored, points_stored, stored_job, over_each, room_for, has_room}
use Rattle.job.specs.Reader.{Fits, filled}
use Rattle.job.specs.Color.{marking_of, corners_in, laid_in, job_counts, check_job, colored_edges, edge_colors, colored, color_job}
use Rattle.job.specs.Color.{color_reading, color_file, job_settings, HoldsJobs}
use Rattle.job.proofs.records.ReadingLaws.{edge_fits}
use Rattle.job.proofs.progress.ProgressLaws.{Sound, job_sound, contours-few, edges_few}
use Rattle.job.proofs.reader.DeliverLaws.{answer_job, answer-refused}
use Rattle.job.proofs.buffers.BufferLaws.{take-over, within-over}
use Rattle.job.proofs.buffers.StoredLaws.{kinds-length}

-- ---- the buffers hold the contours

edges_again : (edges : List EdgeSegment) → outline.edges_of (kinds_stored edges) (points_stored edges) ≡ edges
unfolding outline.edges_of edge_stored to_stored from_stored flatten
edges_again [] = refl
edges_again (segment.Line p0 p1 ∷ edges) = ap (λ (r : List EdgeSegment). segment.Line p0 p1 ∷ r) (edges_again edges)
edges_again (segment.Quadratic p0 p1 p2 ∷ edges) = ap (λ (r : List EdgeSegment). segment.Quadratic p0 p1 p2 ∷ r) (edges_again edges)
edges_again (segment.Cubic p0 p1 p2 p3 ∷ edges) = ap (λ (r : List EdgeSegment). segment.Cubic p0 p1 p2 p3 ∷ r) (edges_again edges)

contours_again : (job : Job) → contours (outline_of (stored_job job)) ≡ job.contours
unfolding contours stored_job
contours_again job = rw (edges_again (flatten job.contours)) (cut_again job.contours)

-- bytes replaced all at once, or contour by contour
pub map-flatten : {A B : Type 0} (f : A → B) (xss : List (List A)) → map f (flatten xss) ≡ flatten (map (map f) xss)
unfolding flatten
map-flatten f [] = refl
map-flatten f (xs ∷ xss) = map-append f xs (flatten xss) ∙ rw (map-flatten f xss)

-- ---- and pass the checks

kinds-known : (edges : List EdgeSegment) → all known_kind (kinds_stored edges) ≡ true
unfolding to_stored
kinds-known [] = refl
kinds-known (segment.Line p0 p1 ∷ edges) = kinds-known edges
kinds-known (segment.Quadratic p0 p1 p2 ∷ edges) = kinds-known edges
kinds-known (segment.Cubic p0 p1 p2 p3 ∷ edges) = kinds-known edges

and_next : (a b c : Bool) → (a && b) ≡ true → (b ≡ true → c ≡ true) → (a && c) ≡ true
and_next true b c h then = then h
and_next false b c h then = h

coordinates_pass : (edges : List EdgeSegment) → all edge_fits edges ≡ true → coordinates_fit (kinds_stored edges) (points_stored edges) ≡ true
unfolding coordinates_fit to_stored flatten
coordinates_pass [] h = refl
coordinates_pass (segment.Line p0 p1 ∷ edges) h = and_next (edge_fits (segment.Line p0 p1)) _ _ h (λ k. coordinates_pass edges k)
coordinates_pass (segment.Quadratic p0 p1 p2 ∷ edges) h = and_next (edge_fits (segment.Quadratic p0 p1 p2)) _ _ h (λ k. coordinates_pass edges k)
coordinates_pass (segment.Cubic p0 p1 p2 p3 ∷ edges) h = and_next (edge_fits (segment.Cubic p0 p1 p2 p3)) _ _ h (λ k. coordinates_pass edges k)

-- the laid out shape of a job with its splines' numbers
abbrev pub numbered : Job → Result
numbered job = painted Source (middle_value Numbers) (spline_values Numbers [] (laid_in job)) (laid_in job)

module _ (job : Job) (so : Sound job) (contours_fit : length job.contours ≤ max_contours) (edges_fit : edge_count job.contours ≤ max_edges) where
  pub passes : first_refusal (check (outline_of (stored_job job)) (threshold_of job.header)) ≡ all_pass
  unfolding check stored_job first_refusal
  passes =
      let edges = flatten job.contours in
      let sum = sym (flatten-length job.contours) in
      rw (
        sum,
        length-map job.contours (λ (c : List EdgeSegment). length c),
        kinds-length edges,
        points-length edges,
        le-leb (length job.contours) 64 contours_fit,
        le-leb (edge_count job.contours) 256 edges_fit,
        eq-eqb (length edges) (length edges) refl,
        eq-eqb (8 * length edges) (8 * length edges) refl,
        kinds-known edges,
        coordinates_pass edges so.coordinates_fit_lem,
        so.threshold_fits,
      )

  -- ---- so each colouring of the buffers is that of the job

  module _ (old : Result) where
    -- by any marking and division, and with distances or without
    by_settings : (division : Division) (marking : Marking) (distances : List Float) → length distances ≤ max_distances
        → let settings = settings_of division marking (threshold_of job.header) in
        edge_coloring settings (outline_of (stored_job job)) distances old ≡ deliver_found [] settings distances (corners_in job) old
    unfolding edge_coloring first_refusal
    by_settings division marking distances few =
        let checks = unless 4 (leb (length distances) max_distances) ∷ check (outline_of (stored_job job)) (threshold_of job.header) in
        let all : first_refusal checks ≡ all_pass = rw (le-leb (length distances) max_distances few) passes in
        rw (contours_again job) (found_passed (settings_of division marking (threshold_of job.header)) distances (corners_in job) old checks all)

    -- collecting its splines counts the edges and splines of its result
    pub collected : collect_splines (outline_of (stored_job job)) (threshold_of job.header) old
        ≡ deliver (unless 4 (leb (spline_total (laid_in job)) max_splines) ∷ []) (job_counts job) (numbered job) old
    unfolding laid_in
    collected = by_settings Source Numbers [] (omega arith)

    stored_colored : edge_coloring (job_settings (numbers_of job)) (outline_of (stored_job job)) (stored_job job).distances old ≡ color_job job old
    unfolding stored_job color_job check_job colored edge_colors colored_edges laid_in painted spline_values
    stored_colored = by_settings job.division (marking_of job) job.distances so.distances-few

-- ---- from what the reader delivers

-- a job that was read has room
pub job_room : (file : List ℕ) (job : Job) (old : Buffers) → read_job file ≡ gives job → HoldsJobs old → has_room (numbers_of job) old ≡ true
unfolding room_for
job_room file job old e h =
    let few = contours-few file job e in
    let edges = edges_few file job e in
    let distances = (job_sound file job e).distances-few in
    rw (
      le-leb (length job.contours) (length old.lengths) (omega (arith, h.lengths_fit)),
      le-leb (edge_count job.contours) (length old.kinds) (omega (arith, h.kinds_fit)),
      le-leb (8 * edge_count job.contours) (length old.points) (omega (arith, h.points_fit)),
      le-leb (length job.distances) (length old.distances) (omega (arith, h.distances_fit)),
    )

-- what the buffers hold after reading
pub record Holding (file : List ℕ) (n : JobNumbers) (old b : Buffers) : Type 0 where
  pub job : Job
  pub is_read : read_job file ≡ gives job
  pub numbers : n ≡ numbers_of job
  pub holds : b ≡ over_each (stored_job job) old

module _ (file : List ℕ) (n : JobNumbers) (old : Buffers) (numbers_are : gives n ≡ answer_of (read_job file)) where
  pub fits_jobs : HoldsJobs old → Fits (read_job file) old
  fits_jobs room = let a = answer_job (read_job file) n numbers_are in rw a.is_read (job_room file a.job old a.is_read room)

  pub holding_of : (b : Buffers) → b ≡ filled (read_job file) old → Holding file n old b
  holding_of b h =
      let a = answer_job (read_job file) n numbers_are in
      record { job = a.job; is_read = a.is_read; numbers = a.numbers; holds = rw a.is_read at h }

pub color-refused : (file : List ℕ) (number : ℕ) (out : Result) → refusal number ≡ answer_of (read_job file) → outcome (refusal number) out ≡ color_file file
    out
unfolding color_file color_reading
color-refused file number out numbers_are = rw (answer-refused (read_job file) number numbers_are)

module _ {file : List ℕ} {n : JobNumbers} {old b : Buffers} (h : Holding file n old b) where
  -- the parts of the buffers that hold the job
  pub part_is : part_of n b ≡ stored_job h.job
  unfolding over_each stored_job
  part_is =
      let job = h.job in
      let edges = flatten job.contours in
      rw (
        h.numbers,
        h.holds,
        take-over (sizes job.contours) old.lengths refl (sym (length-map job.contours (λ (c : List EdgeSegment). length c))),
        take-over (kinds_stored edges) old.kinds refl (sym (kinds-length edges)),
        take-over (points_stored edges) old.points refl (sym (points-length edges)),
        take-over job.distances old.distances refl refl,
      )

  pub held-colored : (settings : Settings) (out : Result) → settings ≡ job_settings n
      → edge_coloring settings (outline_of (part_of n b)) (part_of n b).distances out ≡ color_file file out
  unfolding color_file color_reading
  held-colored settings out e =
      let job = h.job in
      let so = job_sound file job h.is_read in
      ap (λ (s : Settings). edge_coloring s (outline_of (part_of n b)) (part_of n b).distances out) e
      ∙ ap (λ (b : Buffers). edge_coloring (job_settings n) (outline_of b) b.distances out) part_is
      ∙ rw (h.numbers, h.is_read) (stored_colored job so (contours-few file job h.is_read) (edges_few file job h.is_read) out)

  -- and they lie within the buffers
  pub edges_most : n.edges ≤ max_edges
  edges_most = rw h.numbers (edges_few file h.job h.is_read)

  pub contours-within : n.contours ≤ length b.lengths
  unfolding over_each stored_job
  contours-within = rw (h.numbers, h.holds)
      (within-over (sizes h.job.contours) old.lengths refl (sym (length-map h.job.contours (λ (c : List EdgeSegment). length c))))

  pub kinds-within : n.edges ≤ length b.kinds
  unfolding over_each stored_job
  kinds-within = rw (h.numbers, h.holds)
      (within-over (kinds_stored (flatten h.job.contours)) old.kinds refl (sym (kinds-length (flatten h.job.contours))))

  pub places-within : 8 * n.edges ≤ length b.points
  unfolding over_each stored_job
  places-within = rw (h.numbers, h.holds)
      (within-over (points_stored (flatten h.job.contours)) old.points refl (sym (points-length (flatten h.job.contours))))

  pub distances-within : n.distances ≤ length b.distances
  unfolding over_each stored_job
  distances-within = rw (h.numbers, h.holds) (within-over h.job.distances old.distances refl refl)

  -- so the job has room
  pub held_room : has_room n b ≡ true
  unfolding room_for
  held_room = rw (le-leb _ _ contours-within, le-leb _ _ kinds-within, le-leb _ _ places-within, le-leb _ _ distances-within)
