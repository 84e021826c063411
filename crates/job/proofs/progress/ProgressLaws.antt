-- How far a file is read: the counts that the code keeps are those of the job so far, and the records ahead decide
-- the rest.
use mathlib.Core.Path.{◌≡◌, refl, sym, ap, subst, ◌∙◌}
use mathlib.Core.Bool.{Bool, true, false, ◌&&◌}
use mathlib.Core.List.{List, [], ◌∷◌, ◌++◌, append-nil, append_assoc, flatten}
use Prim.Native.Nat.{ℕ, zero, suc, ◌+◌, ◌*◌, ◌-◌, ◌<◌, ◌≤◌}
use native.Mathlib.Omega.{arith}
use lib.ListN.{length, take, drop, length-append, length-drop, take-append-drop}
use lib.Seq.{drop-drop, take-add, take_at}
use lib.Ieee as Ieee
use lib.Ieee.{of_bits}
use borrow.Author.Tests.{ltb-true}
use Rattle.math.specs.Scalar.{f1}
use Rattle.geometry.specs.declared.edge_segment.EdgeSegment.{EdgeSegment}
use Rattle.coloring.specs.Bools.{and_left}
use Rattle.coloring.specs.Lists.{all}
use Rattle.coloring.specs.PairOrder.{distances_valid}
use Rattle.coloring.specs.Outline.{between}
use Rattle.coloring.specs.Limits.{max_contours, max_edges, max_distances}
use Rattle.coloring.specs.Answers.{gives, refusal}
use Rattle.job.specs.Limits.{max_file}
use Rattle.job.specs.declared.records.Phase.{Phase}
use Rattle.job.specs.declared.records.Phase.TheVariants.{Start, Headed, Outside, Inside, Closing}
use Rattle.job.specs.declared.records.State.{State}
use Rattle.job.specs.declared.records.Item.{Item}
use Rattle.job.specs.declared.progress.Progress.{Progress}
use Rattle.job.specs.declared.progress.Numbers.{Numbers}
use Rattle.job.specs.Records.{Record, header, balanced, contour, edge, distances, Step, next, ends, fails, at_start, headed, kind_of, inside}
use Rattle.job.specs.Records.{among, closing, by_distance, record_mark, coordinates, bytes_of, below_maximum, record_size, item_of, phase_after}
use Rattle.job.specs.Records.{counted, read_record, after, records_from}
use Rattle.job.specs.Job.{Holdable, doubles, records_of, record_bytes, file_of, threshold_of, Job}
use Rattle.job.specs.Job.{no_job, with_edge, with_record, job_from, read_job}
use Rattle.job.specs.Progress.{edge_count, begin, advanced, numbers_of}
use Rattle.job.proofs.buffers.StoredLaws.{concat_snoc}
use Rattle.job.proofs.progress.ReadyLaws.{Ready}
use Rattle.job.proofs.progress.SoFarLaws.{bytes-more, so_far, headed-among, inside-among, Fresh, Bare, so_far_next, so_far_end, asked_next}
use Rattle.job.proofs.progress.SoFarLaws.{fresh_next, floats-doubles, edge-doubles}
use Rattle.job.proofs.patterns.PatternLaws.{AreBytes}
use Rattle.job.proofs.patterns.ByteLaws.{are_dropped}
use Rattle.job.proofs.records.RecordLaws.{Allowed, controls-few, size_is, size_some}
use Rattle.job.proofs.records.ReadingLaws.{Held, edge_fits, InRange, Read-as, end_is, end_may, end_size, Taken, taken, records_next}
use Rattle.job.proofs.records.ReadingLaws.{records_end, records_fault}

-- ---- an edge more in the last contour

pub with_edge_length : (contours : List (List EdgeSegment)) (e : EdgeSegment) → length (with_edge contours e) ≡ length contours
unfolding with_edge
with_edge_length [] e = refl
with_edge_length (c ∷ []) e = refl
with_edge_length (c ∷ d ∷ contours) e = ap suc (with_edge_length (d ∷ contours) e)

pub with_edge_concat : (contours : List (List EdgeSegment)) (e : EdgeSegment) → 0 < length contours
    → flatten (with_edge contours e) ≡ flatten contours ++ (e ∷ [])
unfolding with_edge flatten
with_edge_concat [] e h = absurd (omega arith)
with_edge_concat (c ∷ []) e h = append-nil (c ++ (e ∷ [])) ∙ ap (λ (x : List EdgeSegment). x ++ (e ∷ [])) (sym (append-nil c))
with_edge_concat (c ∷ d ∷ contours) e h =
    ap (λ (x : List EdgeSegment). c ++ x) (with_edge_concat (d ∷ contours) e (omega arith)) ∙ sym (append_assoc c (flatten (d ∷ contours)) (e ∷ []))

pub more-concat : (contours : List (List EdgeSegment)) → flatten (contours ++ ([] ∷ [])) ≡ flatten contours
more-concat contours = concat_snoc contours [] ∙ append-nil (flatten contours)

-- ---- the counts of a job

numbers-next : (job : Job) (r : Record) → Ready job r → counted (numbers_of job) (item_of r) ≡ numbers_of (with_record job r)
unfolding with_record flatten
numbers-next job (header h) ready = refl
numbers-next job balanced ready = refl
numbers-next job contour ready = rw (length-append job.contours ([] ∷ []), more-concat job.contours)
numbers-next job (edge e) ready =
    rw (with_edge_length job.contours e, with_edge_concat job.contours e ready, length-append (flatten job.contours) (e ∷ []))
numbers-next job (distances ds) ready = refl

-- ---- a job whose floats lie within their ranges

pub record Sound (job : Job) : Type 0 where
  pub threshold_fits : between (Ieee.neg f1) (threshold_of job.header) f1 ≡ true
  pub coordinates_fit_lem : all edge_fits (flatten job.contours) ≡ true
  pub distances-few : length job.distances ≤ max_distances
  pub distances-valid : distances_valid job.distances ≡ true

sound-begin : Sound no_job
unfolding flatten of_bits Ieee.neg Ieee.le
sound-begin = record { threshold_fits = refl; coordinates_fit_lem = refl; distances-few = omega arith; distances-valid = refl }

all_snoc : {A : Type 0} (test : A → Bool) (xs : List A) (x : A) → all test xs ≡ true → test x ≡ true → all test (xs ++ (x ∷ [])) ≡ true
all_snoc test [] x h k = rw k
all_snoc test (y ∷ xs) x h k = go (test y) h (λ e. all_snoc test xs x e k)
  where
    go : (b : Bool) → (b && all test xs) ≡ true → (all test xs ≡ true → all test (xs ++ (x ∷ [])) ≡ true) → (b && all test (xs ++ (x ∷ []))) ≡ true
    go true h rest = rest h
    go false h rest = cc

sound-next : (job : Job) (r : Record) (bytes : List ℕ) → Ready job r → Held r bytes → InRange r → Sound job → Sound (with_record job r)
unfolding with_record
sound-next job (header h) bytes is_ready held fits so =
    record { threshold_fits = fits; coordinates_fit_lem = so.coordinates_fit_lem; distances-few = so.distances-few; distances-valid = so.distances-valid }
sound-next job balanced bytes is_ready held fits so = record {
  threshold_fits = so.threshold_fits;
  coordinates_fit_lem = so.coordinates_fit_lem;
  distances-few = so.distances-few;
  distances-valid = so.distances-valid;
}
sound-next job contour bytes is_ready held fits so =
    record {
      threshold_fits = so.threshold_fits;
      coordinates_fit_lem = rw (more-concat job.contours) so.coordinates_fit_lem;
      distances-few = so.distances-few;
      distances-valid = so.distances-valid;
    }
sound-next job (edge e) bytes is_ready held fits so =
    record {
      threshold_fits = so.threshold_fits;
      coordinates_fit_lem = rw (with_edge_concat job.contours e is_ready) (all_snoc edge_fits (flatten job.contours) e so.coordinates_fit_lem fits);
      distances-few = so.distances-few;
      distances-valid = so.distances-valid;
    }
sound-next job (distances ds) bytes is_ready held fits so =
    record { threshold_fits = so.threshold_fits; coordinates_fit_lem = so.coordinates_fit_lem; distances-few = held.0; distances-valid = fits }

-- ---- a job that a file can hold

holdable_next : (job : Job) (r : Record) (bytes : List ℕ) → Ready job r → Held r bytes → AreBytes bytes → Holdable job → Holdable (with_record job r)
unfolding with_record
holdable_next job (header h) bytes is_ready held are so =
    record { seed = (held are).0; threshold = (held are).1; coordinates_are = so.coordinates_are; distances_are = so.distances_are }
holdable_next job balanced bytes is_ready held are so =
    record { seed = so.seed; threshold = so.threshold; coordinates_are = so.coordinates_are; distances_are = so.distances_are }
holdable_next job contour bytes is_ready held are so =
    record {
      seed = so.seed;
      threshold = so.threshold;
      coordinates_are = rw (more-concat job.contours) so.coordinates_are;
      distances_are = so.distances_are;
    }
holdable_next job (edge e) bytes is_ready held are so =
    record {
      seed = so.seed;
      threshold = so.threshold;
      coordinates_are = rw (with_edge_concat job.contours e is_ready)
          (all_snoc (λ (x : EdgeSegment). doubles (coordinates x)) (flatten job.contours) e so.coordinates_are
          (ap (λ (x : EdgeSegment). doubles (coordinates x)) held ∙ edge-doubles (kind_of e) _));
      distances_are = so.distances_are;
    }
holdable_next job (distances ds) bytes is_ready held are so =
    record { seed = so.seed; threshold = so.threshold; coordinates_are = so.coordinates_are; distances_are = ap doubles held.1 ∙ floats-doubles _ }

-- ---- a place that reading reaches

-- the most bytes that JB, BL and DS have up to a phase
abbrev besides : Phase → ℕ
besides Start = 0
besides Headed = 19
besides Outside = 21
besides Inside = 21
besides Closing = 21 + (4 + 8 * max_distances)

pub besides_most : (phase : Phase) → (besides phase ≤ 16153) × (closing phase ≡ false → besides phase ≤ 21)
besides_most Start = (omega arith, λ h. omega arith)
besides_most Headed = (omega arith, λ h. omega arith)
besides_most Outside = (omega arith, λ h. omega arith)
besides_most Inside = (omega arith, λ h. omega arith)
besides_most Closing = (omega arith, λ h. let z : ◌≡◌ {A = ℕ} 0 1 = cc in absurd (omega arith))

pub record Reached (file : List ℕ) (p : Progress) : Type 0 where
  pub job : Job
  pub numbers_are : p.state.numbers ≡ numbers_of job
  pub within : p.at ≤ length file
  pub rest : job_from job (records_from p.state (drop p.at file)) ≡ read_job file
  pub opened : inside p.state.phase ≡ true → 0 < length job.contours
  pub none_yet : closing p.state.phase ≡ false → job.distances ≡ []
  pub sized : p.at ≤ besides p.state.phase + 2 * length job.contours + 66 * edge_count job.contours
  pub contours_fit : length job.contours ≤ max_contours
  pub edges_fit : edge_count job.contours ≤ max_edges
  pub sound : Sound job
  pub fresh : Fresh p.state.phase → Bare job
  pub asked : closing p.state.phase ≡ true → by_distance job.header.strategy ≡ true
  pub placed : p.at ≡ length (record_bytes (so_far p.state.phase job))
  pub passed : AreBytes file → take p.at file ≡ record_bytes (so_far p.state.phase job)
  pub holdable : AreBytes file → Holdable job

pub reached_begin : (file : List ℕ) → Reached file begin
unfolding read_job flatten record_bytes
reached_begin file = record {
  job = no_job;
  numbers_are = refl;
  within = omega arith;
  rest = refl;
  opened = λ h. let z : ◌≡◌ {A = ℕ} 0 1 = cc in absurd (omega arith);
  none_yet = λ h. refl;
  sized = omega arith;
  contours_fit = omega arith;
  edges_fit = omega arith;
  sound = sound-begin;
  fresh = λ h. (refl, refl);
  asked = λ h. let z : ◌≡◌ {A = ℕ} 0 1 = cc in absurd (omega arith);
  placed = refl;
  passed = λ are. refl;
  holdable = λ are. record { seed = omega arith; threshold = omega arith; coordinates_are = refl; distances_are = refl };
}

pub begin_job : (file : List ℕ) → (reached_begin file).job ≡ no_job
unfolding reached_begin
begin_job file = refl

ready : (job : Job) (s : State) (r : Record) → Allowed s (record_mark r) → (inside s.phase ≡ true → 0 < length job.contours) → Ready job r
ready job s (header h) may opened = tt
ready job s balanced may opened = tt
ready job s contour may opened = tt
ready job s (edge e) may opened = opened may
ready job s (distances ds) may opened = tt

opened_after : (job : Job) (s : State) (r : Record) → Ready job r → inside (phase_after s.phase (item_of r)) ≡ true → 0 < length (with_record job r).contours
unfolding with_record
opened_after job s (header x) is_ready h = let z : ◌≡◌ {A = ℕ} 0 1 = cc in absurd (omega arith)
opened_after job s balanced is_ready h = let z : ◌≡◌ {A = ℕ} 0 1 = cc in absurd (omega arith)
opened_after job s contour is_ready h = rw (length-append job.contours ([] ∷ [])) (omega arith)
opened_after job s (edge e) is_ready h = rw (with_edge_length job.contours e) is_ready
opened_after job s (distances ds) is_ready h = let z : ◌≡◌ {A = ℕ} 0 1 = cc in absurd (omega arith)

pub among-contours : (phase : Phase) → among phase ≡ true → closing phase ≡ false
among-contours Start h = cc
among-contours Headed h = refl
among-contours Outside h = refl
among-contours Inside h = refl
among-contours Closing h = cc

pub at-start : (phase : Phase) → at_start phase ≡ true → closing phase ≡ false
at-start Start h = refl
at-start Headed h = cc
at-start Outside h = cc
at-start Inside h = cc
at-start Closing h = cc

pub in_contour : (phase : Phase) → inside phase ≡ true → closing phase ≡ false
in_contour phase h = among-contours phase (inside-among phase h)

-- no record comes after the distances
pub not_closing : (s : State) (r : Record) → Allowed s (record_mark r) → closing s.phase ≡ false
not_closing s (header x) h = at-start s.phase h
not_closing s balanced h = among-contours s.phase (headed-among s.phase h)
not_closing s contour h = among-contours s.phase h
not_closing s (edge e) h = in_contour s.phase h
not_closing s (distances ds) h = among-contours s.phase (and_left (among s.phase) (by_distance s.numbers.header.strategy) h)

none_after : (job : Job) (s : State) (r : Record) → Allowed s (record_mark r) → (closing s.phase ≡ false → job.distances ≡ [])
    → closing (phase_after s.phase (item_of r)) ≡ false → (with_record job r).distances ≡ []
unfolding with_record
none_after job s (header x) may none h = none (not_closing s (header x) may)
none_after job s balanced may none h = none (not_closing s balanced may)
none_after job s contour may none h = none (not_closing s contour may)
none_after job s (edge e) may none h = none h
none_after job s (distances ds) may none h = cc

contours-after : (job : Job) (s : State) (r : Record) → s.numbers.contours ≡ length job.contours → below_maximum s.numbers (record_mark r) ≡ true
    → length job.contours ≤ max_contours → length (with_record job r).contours ≤ max_contours
unfolding with_record
contours-after job s (header x) e h few = few
contours-after job s balanced e h few = few
contours-after job s contour e h few = rw (length-append job.contours ([] ∷ [])) (omega (arith, ltb-true s.numbers.contours 64 h))
contours-after job s (edge x) e h few = rw (with_edge_length job.contours x) few
contours-after job s (distances ds) e h few = few

edges-after : (job : Job) (s : State) (r : Record) → Ready job r → s.numbers.edges ≡ edge_count job.contours
    → below_maximum s.numbers (record_mark r) ≡ true → edge_count job.contours ≤ max_edges → edge_count (with_record job r).contours ≤ max_edges
unfolding with_record flatten
edges-after job s (header x) is_ready e h few = few
edges-after job s balanced is_ready e h few = few
edges-after job s contour is_ready e h few = rw (more-concat job.contours) few
edges-after job s (edge x) is_ready e h few =
    rw (with_edge_concat job.contours x is_ready, length-append (flatten job.contours) (x ∷ [])) (omega (arith, ltb-true s.numbers.edges 256 h))
edges-after job s (distances ds) is_ready e h few = few

record_few : (bytes : List ℕ) (r : Record) → Held r bytes → record_size r ≤ 4 + 8 * max_distances
record_few bytes (header h) k = omega (arith, size_is (header h))
record_few bytes balanced k = omega (arith, size_is balanced)
record_few bytes contour k = omega (arith, size_is contour)
record_few bytes (edge e) k = omega (arith, size_is (edge e), controls-few (kind_of e))
record_few bytes (distances ds) k = omega (arith, size_is (distances ds), k.0)

among-besides : (phase : Phase) → among phase ≡ true → besides phase ≤ 21
among-besides phase h = (besides_most phase).1 (among-contours phase h)

size-after : (job : Job) (s : State) (at : ℕ) (r : Record) → Ready job r → Allowed s (record_mark r) → record_size r ≤ 4 + 8 * max_distances
    → at ≤ besides s.phase + 2 * length job.contours + 66 * edge_count job.contours
    → at + record_size r ≤ besides (phase_after s.phase (item_of r)) + 2 * length (with_record job r).contours + 66 * edge_count (with_record job r).contours
unfolding with_record flatten
size-after job s at (header x) is_ready may few h = omega (arith, size_is (header x), start s.phase may)
  where
    start : (phase : Phase) → at_start phase ≡ true → besides phase ≡ 0
    start Start h = refl
    start Headed h = cc
    start Outside h = cc
    start Inside h = cc
    start Closing h = cc
size-after job s at balanced is_ready may few h = omega (arith, size_is balanced, header_only s.phase may)
  where
    header_only : (phase : Phase) → headed phase ≡ true → besides phase ≡ 19
    header_only Start h = cc
    header_only Headed h = refl
    header_only Outside h = cc
    header_only Inside h = cc
    header_only Closing h = cc
size-after job s at contour is_ready may few h = rw (length-append job.contours ([] ∷ []), more-concat job.contours)
    (omega (arith, size_is contour, among-besides s.phase may))
size-after job s at (edge e) is_ready may few h =
    rw (with_edge_length job.contours e, with_edge_concat job.contours e is_ready, length-append (flatten job.contours) (e ∷ []))
    (omega (arith, size_is (edge e), controls-few (kind_of e)))
size-after job s at (distances ds) is_ready may few h =
    omega (arith, among-besides s.phase (and_left (among s.phase) (by_distance s.numbers.header.strategy) may))

-- a record, read at such a place
module _ (file : List ℕ) (p : Progress) (at : Reached file p) (r : Record) (rest : List ℕ) (e : read_record p.state (drop p.at file) ≡ next r rest) where
  pub record_taken : Taken p.state (drop p.at file) r rest
  record_taken = taken p.state (drop p.at file) r rest e

  pub is_ready : Ready at.job r
  is_ready = ready at.job p.state r record_taken.may at.opened

  pub contours_are : p.state.numbers.contours ≡ length at.job.contours
  contours_are = ap (λ (n : Numbers). n.contours) at.numbers_are

  pub edges_are : p.state.numbers.edges ≡ edge_count at.job.contours
  edges_are = ap (λ (n : Numbers). n.edges) at.numbers_are

  fits_in : p.at + record_size r ≤ length file
  fits_in = omega (arith, record_taken.whole, length-drop p.at file, at.within)

  pub further : p.at < p.at + record_size r
  further = omega (arith, size_some r)

  pub ahead : job_from (with_record at.job r) (records_from (after p.state (item_of r)) (drop (p.at + record_size r) file)) ≡ read_job file
  unfolding job_from
  ahead =
      let beyond : rest ≡ drop (p.at + record_size r) file = record_taken.beyond ∙ drop-drop (record_size r) p.at file in
      subst (λ (x : List ℕ). job_from (with_record at.job r) (records_from (after p.state (item_of r)) x) ≡ read_job file) beyond
      (sym (ap (job_from at.job) (records_next p.state (drop p.at file) r rest e)) ∙ at.rest)

  -- the place after it
  abbrev pub onward : Progress
  onward = advanced p (item_of r) (record_size r)

  strategy_is : p.state.numbers.header.strategy ≡ at.job.header.strategy
  strategy_is = ap (λ (n : Numbers). n.header.strategy) at.numbers_are

  further_records : so_far (phase_after p.state.phase (item_of r)) (with_record at.job r) ≡ so_far p.state.phase at.job ++ (r ∷ [])
  further_records = so_far_next at.job p.state.phase _ r record_taken.may is_ready at.fresh

  -- what is taken off is the bytes of the record
  here-bytes : AreBytes file → take (record_size r) (drop p.at file) ≡ bytes_of r
  here-bytes are = ap (take (record_size r)) (record_taken.is_bytes (are_dropped p.at file are)) ∙ take_at (bytes_of r) rest (record_size r) refl

  pub reached_next : Reached file onward
  reached_next = record {
    job = with_record at.job r;
    numbers_are = ap (λ (n : Numbers). counted n (item_of r)) at.numbers_are ∙ numbers-next at.job r is_ready;
    within = fits_in;
    rest = ahead;
    opened = opened_after at.job p.state r is_ready;
    none_yet = none_after at.job p.state r record_taken.may at.none_yet;
    sized = size-after at.job p.state p.at r is_ready record_taken.may (record_few (drop p.at file) r record_taken.held) at.sized;
    contours_fit = contours-after at.job p.state r contours_are record_taken.room at.contours_fit;
    edges_fit = edges-after at.job p.state r is_ready edges_are record_taken.room at.edges_fit;
    sound = sound-next at.job r (drop p.at file) is_ready record_taken.held record_taken.is_in_range at.sound;
    fresh = fresh_next at.job p.state.phase _ r record_taken.may is_ready at.fresh;
    asked = asked_next at.job p.state.phase _ r strategy_is record_taken.may at.asked;
    placed = rw (further_records, bytes-more (so_far p.state.phase at.job) r, length-append) (ap (λ (n : ℕ). n + record_size r) at.placed);
    passed = λ are. take-add p.at (record_size r) file ∙ rw
        (further_records, bytes-more (so_far p.state.phase at.job) r, at.passed are, here-bytes are);
    holdable = λ are. holdable_next at.job r (drop p.at file) is_ready record_taken.held (are_dropped p.at file are) (at.holdable are);
  }

  pub next_job : reached_next.job ≡ with_record at.job r
  unfolding reached_next
  next_job = refl

-- the same from what the code finds
module _ (file : List ℕ) (p : Progress) (at : Reached file p) {item : Item} {size : ℕ}
    (read : Read-as (read_record p.state (drop p.at file)) item size) where
  pub reached_on : Reached file (advanced p item size)
  reached_on = rw (← read.is_item, ← read.is_size) (reached_next file p at read.r read.rest read.is_next)

  pub less_on : length file - (p.at + size) < length file - p.at
  less_on = omega (
    arith,
    further file p at read.r read.rest read.is_next,
    (reached_next file p at read.r read.rest read.is_next).within,
    read.is_size,
  )

-- the end of the file, and a fault
pub reached_end : (file : List ℕ) (p : Progress) (at : Reached file p) → read_record p.state (drop p.at file) ≡ ends → gives at.job ≡ read_job file
unfolding job_from
reached_end file p at e = sym (ap (job_from at.job) (records_end p.state (drop p.at file) e)) ∙ at.rest

pub reached_fault : (file : List ℕ) (p : Progress) (at : Reached file p) (number : ℕ) → read_record p.state (drop p.at file) ≡ fails number
    → refusal number ≡ read_job file
unfolding job_from
reached_fault file p at number e = sym (ap (job_from at.job) (records_fault p.state (drop p.at file) number e)) ∙ at.rest

-- ---- a file that is read is read to its end

pub record Ends-at (file : List ℕ) (job : Job) : Type 0 where
  pub p : Progress
  pub at : Reached file p
  pub at_end : read_record p.state (drop p.at file) ≡ ends
  pub is_job : at.job ≡ job

-- the end is here, or after the record that is read here
ends-here : (file : List ℕ) (job : Job) (p : Progress) → Reached file p → read_job file ≡ gives job
    → ((r : Record) (rest : List ℕ) → read_record p.state (drop p.at file) ≡ next r rest → Ends-at file job)
    → (step : Step) → read_record p.state (drop p.at file) ≡ step → Ends-at file job
ends-here file job p at e later (next r rest) f = later r rest f
ends-here file job p at e later ends f = record { p = p; at = at; at_end = f; is_job = let same = reached_end file p at f ∙ e in cc }
ends-here file job p at e later (fails number) f =
    let never = reached_fault file p at number f ∙ e in
    let z : ◌≡◌ {A = ℕ} 0 1 = cc in
    absurd (omega arith)

ends-within : (n : ℕ) (file : List ℕ) (job : Job) (p : Progress) → Reached file p → length file - p.at ≤ n → read_job file ≡ gives job → Ends-at file job
ends-within zero file job p at h e =
    ends-here file job p at e
    (λ r rest f. absurd (omega (arith, further file p at r rest f, (reached_next file p at r rest f).within)))
    (read_record p.state (drop p.at file)) refl
ends-within (suc n) file job p at h e =
    ends-here file job p at e
    (λ r rest f. ends-within n file job (onward file p at r rest f) (reached_next file p at r rest f)
    (omega (arith, further file p at r rest f, (reached_next file p at r rest f).within)) e)
    (read_record p.state (drop p.at file)) refl

ends_at : (file : List ℕ) (job : Job) → read_job file ≡ gives job → Ends-at file job
ends_at file job e = ends-within (length file) file job begin (reached_begin file) (omega arith) e

-- a job that is read keeps to the maxima
pub contours-few : (file : List ℕ) (job : Job) → read_job file ≡ gives job → length job.contours ≤ max_contours
contours-few file job e = let end = ends_at file job e in subst (λ (j : Job). length j.contours ≤ max_contours) end.is_job end.at.contours_fit

pub edges_few : (file : List ℕ) (job : Job) → read_job file ≡ gives job → edge_count job.contours ≤ max_edges
edges_few file job e = let end = ends_at file job e in subst (λ (j : Job). edge_count j.contours ≤ max_edges) end.is_job end.at.edges_fit

pub job_sound : (file : List ℕ) (job : Job) → read_job file ≡ gives job → Sound job
job_sound file job e = let end = ends_at file job e in subst Sound end.is_job end.at.sound

-- and is not too long
pub bytes-few : (file : List ℕ) (job : Job) → read_job file ≡ gives job → length file ≤ max_file
bytes-few file job e =
    let end = ends_at file job e in
    let p = end.p in
    omega (
      arith,
      end.at.sized,
      (besides_most p.state.phase).0,
      end.at.contours_fit,
      end.at.edges_fit,
      end_size p.state (drop p.at file) end.at_end,
      length-drop p.at file,
    )

-- ---- a file that is read is the file of its job, which it can hold

pub job_holdable : (file : List ℕ) (job : Job) → AreBytes file → read_job file ≡ gives job → Holdable job
job_holdable file job are e = let end = ends_at file job e in subst Holdable end.is_job (end.at.holdable are)

pub file_of_job : (file : List ℕ) (job : Job) → AreBytes file → read_job file ≡ gives job → file ≡ file_of job
unfolding file_of
file_of_job file job are e =
    let end = ends_at file job e in
    let p = end.p in
    let at = end.at in
    let last = end_is p.state (drop p.at file) end.at_end in
    let by : p.state.numbers.header.strategy ≡ at.job.header.strategy = ap (λ (n : Numbers). n.header.strategy) at.numbers_are in
    let all : so_far p.state.phase at.job ≡ records_of at.job = so_far_end at.job p.state.phase
    (rw by at (end_may p.state (drop p.at file) end.at_end)) at.asked in
    sym (take-append-drop p.at file)
    ∙ ap (λ (x : List ℕ). x ++ drop p.at file) (at.passed are ∙ ap record_bytes all)
    ∙ ap (λ (x : List ℕ). record_bytes (records_of at.job) ++ x) last
    ∙ ap file_of end.is_job
