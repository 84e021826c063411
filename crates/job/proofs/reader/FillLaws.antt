-- The buffers follow the job: after each record they hold the job so far, over what stood there.
use mathlib.Core.Path.{◌≡◌, refl, sym, ap, subst, ◌∙◌}
use mathlib.Core.Bool.{Bool, true, false, ◌&&◌}
use mathlib.Core.List.{List, [], ◌∷◌, ◌++◌, flatten, map-append}
use Prim.Native.Nat.{ℕ, ◌+◌, ◌*◌, ◌-◌, ◌<◌, ◌≤◌}
use native.Mathlib.Omega.{arith}
use lib.Dec.{leb}
use lib.ListN.{length, take, drop, set, length-append, length-map}
use lib.Ieee.{Float}
use borrow.Author.Tests.{leb-true}
use Rattle.geometry.specs.declared.edge_segment.EdgeSegment.{EdgeSegment}
use Rattle.geometry.specs.EdgeSegment.{to_stored}
use Rattle.coloring.specs.Lists.{over}
use Rattle.coloring.specs.Sizes.{sizes, places-length, points-length}
use Rattle.coloring.specs.Limits.{max_edges}
use Rattle.coloring.specs.Answers.{gives, refusal}
use Rattle.job.specs.declared.records.State.{State}
use Rattle.job.specs.declared.records.Item.{Item}
use Rattle.job.specs.declared.progress.Progress.{Progress}
use Rattle.job.specs.Patterns.{words, floats}
use Rattle.job.specs.Records.{kind_number, Record, header, balanced, contour, edge, distances, Step, next, ends, fails, controls, kind_of, edge_of, item_of}
use Rattle.job.specs.Records.{closing, record_mark, record_size, read_record, after, Records, complete, fault, ◌then◌, records_from}
use Rattle.job.specs.Job.{Job, with_edge, with_record, Reading, job_from, read_job}
use Rattle.job.specs.Progress.{edge_count, numbers_of, begin, advanced}
use Rattle.job.specs.Reader.{Fits, filled}
use Rattle.job.specs.Buffers.{Buffers, buffers, kinds_stored, points_stored, points_read, stored_job}
use Rattle.job.specs.Buffers.{over_each, written, room_for, has_room, RecordFits}
use Rattle.job.proofs.records.RecordLaws.{Allowed, size_is}
use Rattle.job.proofs.records.ReadingLaws.{Taken, taken, Read-as, records_end, records_fault}
use Rattle.job.proofs.progress.ReadyLaws.{Ready}
use Rattle.job.proofs.progress.ProgressLaws.{Reached, reached_begin, begin_job, reached_next, next_job, reached_end, reached_fault}
use Rattle.job.proofs.progress.ProgressLaws.{with_edge_length, with_edge_concat, more-concat, not_closing, record_taken, is_ready}
use Rattle.job.proofs.progress.ProgressLaws.{contours_are, edges_are, ahead}
use Rattle.job.proofs.buffers.BufferLaws.{over-more, over-length, over-set, over-get_or, over-part}
use Rattle.job.proofs.buffers.StoredLaws.{lengths-edge, last-few, kind-number, kinds-edge, places-edge, kinds-length}

-- ---- a job so far is a part of the whole

with_record_grows : (job : Job) (r : Record)
    → (length job.contours ≤ length (with_record job r).contours) × (edge_count job.contours ≤ edge_count (with_record job r).contours)
unfolding with_record with_edge flatten
with_record_grows job (header h) = (omega arith, omega arith)
with_record_grows job balanced = (omega arith, omega arith)
with_record_grows job contour = (omega (arith, length-append job.contours ([] ∷ [])), omega (arith, ap length (more-concat job.contours)))
with_record_grows job (edge e) = (omega (arith, with_edge_length job.contours e), more job.contours)
  where
    more : (contours : List (List EdgeSegment)) → edge_count contours ≤ edge_count (with_edge contours e)
    more [] = omega arith
    more (c ∷ contours) = omega (arith, ap length (with_edge_concat (c ∷ contours) e (omega arith)), length-append (flatten (c ∷ contours)) (e ∷ []))
with_record_grows job (distances ds) = (omega arith, omega arith)

grows : (job whole : Job) (records : Records) → job_from job records ≡ gives whole
    → (length job.contours ≤ length whole.contours) × (edge_count job.contours ≤ edge_count whole.contours)
unfolding job_from
grows job whole complete e =
    let same : job ≡ whole = cc in
    (omega (arith, ap (λ (j : Job). length j.contours) same), omega (arith, ap (λ (j : Job). edge_count j.contours) same))
grows job whole (fault number) e = let z : ◌≡◌ {A = ℕ} 0 1 = cc in absurd (omega arith)
grows job whole (r then rest) e =
    let one = with_record_grows job r in
    let all = grows (with_record job r) whole rest e in
    (omega arith, omega arith)

-- nothing comes after the distances
closing_final : (s : State) (bytes : List ℕ) (job whole : Job) → closing s.phase ≡ true → job_from job (records_from s bytes) ≡ gives whole → job ≡ whole
unfolding job_from
closing_final s bytes job whole h e = go (read_record s bytes) refl
  where
    go : (step : Step) → read_record s bytes ≡ step → job ≡ whole
    go (next r rest) f =
        let no = not_closing s r (taken s bytes r rest f).may in
        let z : ◌≡◌ {A = ℕ} 0 1 = cc in absurd (omega arith)
    go ends f = let done = sym (ap (job_from job) (records_end s bytes f)) ∙ e in cc
    go (fails number) f = let stopped = sym (ap (job_from job) (records_fault s bytes number f)) ∙ e in cc

-- ---- room

pub record Fitting (b old : Buffers) : Type 0 where
  pub lengths_fit : length b.lengths ≤ length old.lengths
  pub kinds_fit : length b.kinds ≤ length old.kinds
  pub points_fit : length b.points ≤ length old.points
  pub distances_fit : length b.distances ≤ length old.distances

and_both : (a b : Bool) → (a && b) ≡ true → (a ≡ true) × (b ≡ true)
and_both true b h = (refl, h)
and_both false b h = (h, cc)

-- what the code tests
pub record Roomy (contours edges distances : ℕ) (old : Buffers) : Type 0 where
  pub contours_fit : contours ≤ length old.lengths
  pub edges_fit : edges ≤ length old.kinds
  pub places_fit_lem : 8 * edges ≤ length old.points
  pub distances_fit : distances ≤ length old.distances

roomy : (job : Job) (old : Buffers) → has_room (numbers_of job) old ≡ true
    → Roomy (length job.contours) (edge_count job.contours) (length job.distances) old
unfolding room_for
roomy job old h =
    let l = leb (length job.contours) (length old.lengths) in
    let k = leb (edge_count job.contours) (length old.kinds) in
    let p = leb (8 * edge_count job.contours) (length old.points) in
    let d = leb (length job.distances) (length old.distances) in
    let a = and_both (l && k && p) d h in
    let b = and_both (l && k) p a.0 in
    let c = and_both l k b.0 in
    record {
      contours_fit = leb-true _ _ c.0;
      edges_fit = leb-true _ _ c.1;
      places_fit_lem = leb-true _ _ b.1;
      distances_fit = leb-true _ _ a.1;
    }

fitting : (job : Job) (old : Buffers) (contours edges : ℕ) → length job.contours ≤ contours → edge_count job.contours ≤ edges
    → Roomy contours edges (length job.distances) old → Fitting (stored_job job) old
unfolding stored_job
fitting job old contours edges h k room = record {
  lengths_fit = omega (arith, length-map job.contours (λ (c : List EdgeSegment). length c), room.contours_fit);
  kinds_fit = omega (arith, kinds-length (flatten job.contours), room.edges_fit);
  points_fit = omega (arith, points-length (flatten job.contours), room.places_fit_lem);
  distances_fit = room.distances_fit;
}

-- ---- one record more

same : {l l' k k' : List ℕ} {p p' d d' : List Float} → l ≡ l' → k ≡ k' → p ≡ p' → d ≡ d' → buffers l k p d ≡ buffers l' k' p' d'
same {l' = l'} {k = k} {k' = k'} {p = p} {p' = p'} {d = d} a b c e =
    ap (λ (x : List ℕ). buffers x k p d) a ∙ ap (λ (x : List ℕ). buffers l' x p d) b ∙ ap (λ (x : List Float). buffers l' k' x d) c
    ∙ ap (λ (x : List Float). buffers l' k' p' x) e

module _ (job : Job) (old : Buffers) (s : State) (bytes : List ℕ)
    (contours-at : s.numbers.contours ≡ length job.contours) (edges_at : s.numbers.edges ≡ edge_count job.contours) where
  abbrev contours : List (List EdgeSegment)
  contours = job.contours

  abbrev edges : List EdgeSegment
  edges = flatten contours

  count : length (sizes contours) ≡ length contours
  count = length-map contours (λ (c : List EdgeSegment). length c)

  written-contour : Fitting (stored_job (with_record job contour)) old → written (item_of contour) s.numbers bytes (over_each (stored_job job) old) ≡ over_each
      (stored_job (with_record job contour)) old
  unfolding written over_each stored_job with_record
  written-contour fit =
      let more : sizes (contours ++ ([] ∷ [])) ≡ sizes contours ++ (0 ∷ []) = map-append (λ (c : List EdgeSegment). length c) contours ([] ∷ []) in
      let at : s.numbers.contours ≡ length (sizes contours) = contours-at ∙ sym count in
      same
      (ap (λ (n : ℕ). set (over (sizes contours) old.lengths) n 0) at
      ∙ over-more (sizes contours) old.lengths 0 (omega (arith, fit.lengths_fit, ap length more, length-append (sizes contours) (0 ∷ [])))
      ∙ ap (λ (x : List ℕ). over x old.lengths) (sym more))
      (rw (more-concat contours))
      (rw (more-concat contours))
      refl

  written-edge : (e : EdgeSegment) → 0 < length contours → Fitting (stored_job (with_record job (edge e))) old
      → e ≡ edge_of (kind_of e) (floats (words (2 * controls (kind_of e)) (take (16 * controls (kind_of e)) (drop 2 bytes))))
      → written (item_of (edge e)) s.numbers bytes (over_each (stored_job job) old) ≡ over_each (stored_job (with_record job (edge e))) old
  unfolding written over_each stored_job with_record points_read
  written-edge e opened fit held =
      let all : flatten (with_edge contours e) ≡ edges ++ (e ∷ []) = with_edge_concat contours e opened in
      let last : s.numbers.contours - 1 ≡ length contours - 1 = omega arith in
      let inside : length contours - 1 < length (sizes contours) = omega (arith, count) in
      let fewer : length (sizes contours) ≤ length old.lengths = omega
      (arith, count, fit.lengths_fit, length-map (with_edge contours e) (λ (c : List EdgeSegment). length c), with_edge_length contours e) in
      let at : s.numbers.edges ≡ length (kinds_stored edges) = edges_at ∙ sym (kinds-length edges) in
      let kinds : kinds_stored (flatten (with_edge contours e)) ≡ kinds_stored edges ++ (kind_number (kind_of e) ∷ []) =
      ap kinds_stored all ∙ kinds-edge edges e ∙ ap (λ (n : ℕ). kinds_stored edges ++ (n ∷ [])) (kind-number e) in
      let points : points_stored (flatten (with_edge contours e)) ≡ points_stored edges ++ (to_stored e).points = ap points_stored all ∙ places-edge edges e in
      same
      (rw (last, over-get_or (sizes contours) old.lengths (length contours - 1) 0 inside)
      (over-set (sizes contours) old.lengths (length contours - 1) _ inside fewer)
      ∙ ap (λ (x : List ℕ). over x old.lengths) (sym (lengths-edge contours e opened)))
      (ap (λ (n : ℕ). set (over (kinds_stored edges) old.kinds) n (kind_number (kind_of e))) at
      ∙ over-more (kinds_stored edges) old.kinds (kind_number (kind_of e))
      (omega (arith, fit.kinds_fit, ap length kinds, length-append (kinds_stored edges) (kind_number (kind_of e) ∷ [])))
      ∙ ap (λ (x : List ℕ). over x old.kinds) (sym kinds))
      (ap (λ (x : EdgeSegment). take (8 * s.numbers.edges) (over (points_stored edges) old.points)
      ++ ((to_stored x).points ++ drop 8 (drop (8 * s.numbers.edges) (over (points_stored edges) old.points)))) (sym held)
      ∙ over-part (points_stored edges) (to_stored e).points old.points (8 * s.numbers.edges) 8 (omega (arith, edges_at, points-length edges))
      (sym (places-length e))
      ∙ ap (λ (x : List Float). over x old.points) (sym points))
      refl

  written-distances : (ds : List Float) → job.distances ≡ [] → ds ≡ floats (words (length ds) (drop 4 bytes))
      → written (item_of (distances ds)) s.numbers bytes (over_each (stored_job job) old) ≡ over_each (stored_job (with_record job (distances ds))) old
  unfolding written over_each stored_job with_record over
  written-distances ds none held = same refl refl refl (rw none (ap (λ (x : List Float). x ++ drop (length x) old.distances) (sym held)))

  written_next : (r : Record) (rest : List ℕ) → Taken s bytes r rest → Ready job r → (closing s.phase ≡ false → job.distances ≡ [])
      → Fitting (stored_job (with_record job r)) old
      → written (item_of r) s.numbers bytes (over_each (stored_job job) old) ≡ over_each (stored_job (with_record job r)) old
  written_next (header h) rest t ready none fit = unfold written over_each stored_job with_record in refl
  written_next balanced rest t ready none fit = unfold written over_each stored_job with_record in refl
  written_next contour rest t ready none fit = written-contour fit
  written_next (edge e) rest t ready none fit = written-edge e ready fit t.held
  written_next (distances ds) rest t ready none fit = written-distances ds (none (not_closing s (distances ds) t.may)) t.held.1

  -- there is room for the record
  room-contour : Fitting (stored_job (with_record job contour)) old → RecordFits (item_of contour) s.numbers bytes (over_each (stored_job job) old)
  unfolding over_each stored_job with_record
  room-contour fit =
      let more : length (sizes (contours ++ ([] ∷ []))) ≡ length contours + 1 = length-map (contours ++ ([] ∷ [])) (λ (c : List EdgeSegment). length c)
      ∙ length-append contours ([] ∷ []) in
      rw (over-length (sizes contours) old.lengths (omega (arith, count, more, fit.lengths_fit))) (omega (arith, more, fit.lengths_fit))

  room-edge : (e : EdgeSegment) → 0 < length contours → edge_count contours ≤ max_edges → 2 + 16 * controls (kind_of e) ≤ length bytes
      → Fitting (stored_job (with_record job (edge e))) old
      → RecordFits (item_of (edge e)) s.numbers bytes (over_each (stored_job job) old)
  unfolding over_each stored_job with_record
  room-edge e opened few whole fit =
      let all : edge_count (with_edge contours e) ≡ edge_count contours + 1 = ap length (with_edge_concat contours e opened) ∙ length-append edges (e ∷ []) in
      let lengths-in : length (sizes contours) ≤ length old.lengths =
      omega (arith, count, fit.lengths_fit, length-map (with_edge contours e) (λ (c : List EdgeSegment). length c), with_edge_length contours e) in
      let kinds-in : edge_count contours + 1 ≤ length old.kinds = omega (arith, fit.kinds_fit, kinds-length (flatten (with_edge contours e)), all) in
      let points-in : 8 * (edge_count contours + 1) ≤ length old.points =
      omega (arith, fit.points_fit, points-length (flatten (with_edge contours e)), all) in
      let last : s.numbers.contours - 1 ≡ length contours - 1 = omega arith in (
        omega arith,
        omega (arith, over-length (sizes contours) old.lengths lengths-in, count),
        rw (last, over-get_or (sizes contours) old.lengths (length contours - 1) 0 (omega (arith, count))) (omega (arith, last-few contours opened)),
        omega (arith, over-length (kinds_stored edges) old.kinds (omega (arith, kinds-length edges))),
        omega (arith, over-length (points_stored edges) old.points (omega (arith, points-length edges))),
        whole,
      )

  room-distances : (ds : List Float) → job.distances ≡ [] → 4 + 8 * length ds ≤ length bytes → Fitting (stored_job (with_record job (distances ds))) old
      → RecordFits (item_of (distances ds)) s.numbers bytes (over_each (stored_job job) old)
  unfolding over_each stored_job with_record over
  room-distances ds none whole fit = (rw none fit.distances_fit, whole)

  room_next : (r : Record) (rest : List ℕ) → Taken s bytes r rest → Ready job r → (closing s.phase ≡ false → job.distances ≡ [])
      → edge_count contours ≤ max_edges → Fitting (stored_job (with_record job r)) old
      → RecordFits (item_of r) s.numbers bytes (over_each (stored_job job) old)
  room_next (header h) rest t ready none few fit = tt
  room_next balanced rest t ready none few fit = tt
  room_next contour rest t ready none few fit = room-contour fit
  room_next (edge e) rest t ready none few fit = room-edge e ready few (omega (arith, t.whole, size_is (edge e))) fit
  room_next (distances ds) rest t ready none few fit = room-distances ds (none (not_closing s (distances ds) t.may))
      (omega (arith, t.whole, size_is (distances ds))) fit

-- the distances of the job so far are those of the whole, or none
distances_so_far : (job whole : Job) (s : State) (bytes rest : List ℕ) (r : Record) → Allowed s (record_mark r)
    → (closing s.phase ≡ false → job.distances ≡ [])
    → job_from (with_record job r) (records_from (after s (item_of r)) rest) ≡ gives whole → length (with_record job r).distances ≤ length whole.distances
unfolding with_record
distances_so_far job whole s bytes rest (header h) may none e = omega (arith, ap length (none (not_closing s (header h) may)))
distances_so_far job whole s bytes rest balanced may none e = omega (arith, ap length (none (not_closing s balanced may)))
distances_so_far job whole s bytes rest contour may none e = omega (arith, ap length (none (not_closing s contour may)))
distances_so_far job whole s bytes rest (edge x) may none e = omega (arith, ap length (none (not_closing s (edge x) may)))
distances_so_far job whole s bytes rest (distances ds) may none e =
    omega (arith, ap (λ (j : Job). length j.distances) (closing_final (after s (item_of (distances ds))) rest (with_record job (distances ds)) whole refl e))

-- ---- in the file

module _ (file : List ℕ) (p : Progress) (at : Reached file p) (r : Record) (rest : List ℕ) (e : read_record p.state (drop p.at file) ≡ next r rest)
    (old : Buffers) (whole : Job) (f : read_job file ≡ gives whole) (room : has_room (numbers_of whole) old ≡ true) where
  still : job_from (with_record at.job r) (records_from (after p.state (item_of r)) (drop (p.at + record_size r) file)) ≡ gives whole
  still = ahead file p at r rest e ∙ f

  fitting_next : Fitting (stored_job (with_record at.job r)) old
  fitting_next =
      let t = record_taken file p at r rest e in
      let most = grows (with_record at.job r) whole (records_from (after p.state (item_of r)) (drop (p.at + record_size r) file)) still in
      let space = roomy whole old room in
      fitting (with_record at.job r) old (length whole.contours) (edge_count whole.contours) most.0 most.1
      (record {
        contours_fit = space.contours_fit;
        edges_fit = space.edges_fit;
        places_fit_lem = space.places_fit_lem;
        distances_fit = omega (
          arith,
          space.distances_fit,
          distances_so_far at.job whole p.state file (drop (p.at + record_size r) file) r t.may
              at.none_yet still,
        );
      })

  room-here : RecordFits (item_of r) p.state.numbers (drop p.at file) (over_each (stored_job at.job) old)
  room-here =
      room_next at.job old p.state (drop p.at file) (contours_are file p at r rest e) (edges_are file p at r rest e) r rest
      (record_taken file p at r rest e) (is_ready file p at r rest e) at.none_yet at.edges_fit fitting_next

  written-here : written (item_of r) p.state.numbers (drop p.at file) (over_each (stored_job at.job) old)
      ≡ over_each (stored_job (with_record at.job r)) old
  written-here =
      written_next at.job old p.state (drop p.at file) (contours_are file p at r rest e) (edges_are file p at r rest e) r rest
      (record_taken file p at r rest e) (is_ready file p at r rest e) at.none_yet fitting_next

-- ---- the buffers on the way

pub record Filling (file : List ℕ) (old : Buffers) (p : Progress) (b : Buffers) : Type 0 where
  pub at : Reached file p
  pub holds : b ≡ over_each (stored_job at.job) old

pub filling_begin : (file : List ℕ) (old : Buffers) → Filling file old begin old
unfolding over_each stored_job over flatten
filling_begin file old = record { at = reached_begin file; holds = rw (begin_job file) }

record Whole (reading : Reading) (old : Buffers) : Type 0 where
  job : Job
  is : reading ≡ gives job
  room : has_room (numbers_of job) old ≡ true

whole_of : (reading : Reading) (old : Buffers) → Fits reading old → Whole reading old
whole_of (refusal number) old h = absurd h
whole_of (gives job) old h = record { job = job; is = refl; room = h }

module _ (file : List ℕ) (old : Buffers) (fits : Fits (read_job file) old) (p : Progress) (b : Buffers) (filling : Filling file old p b) where
  abbrev whole : Whole (read_job file) old
  whole = whole_of (read_job file) old fits

  module _ (item : Item) (size : ℕ) (read : Read-as (read_record p.state (drop p.at file)) item size) where
    pub filling_room : RecordFits item p.state.numbers (drop p.at file) b
    filling_room =
        rw (filling.holds, ← read.is_item)
        (room-here file p filling.at read.r read.rest read.is_next old whole.job whole.is whole.room)

    pub filling_next : Filling file old (advanced p item size) (written item p.state.numbers (drop p.at file) b)
    filling_next =
        let job = filling.at.job in
        let next = reached_next file p filling.at read.r read.rest read.is_next in
        rw (← read.is_item, ← read.is_size)
        (record {
          at = next;
          holds = ap (written (item_of read.r) p.state.numbers (drop p.at file)) filling.holds
              ∙ written-here file p filling.at read.r read.rest read.is_next old whole.job whole.is whole.room
              ∙ ap (λ (j : Job). over_each (stored_job j) old) (sym (next_job file p filling.at read.r read.rest read.is_next));
        })

  pub filling_end : read_record p.state (drop p.at file) ≡ ends → b ≡ filled (read_job file) old
  filling_end e = filling.holds ∙ ap (λ (r : Reading). filled r old) (reached_end file p filling.at e)

  pub filling_fault : (number : ℕ) → read_record p.state (drop p.at file) ≡ fails number → ⊥
  filling_fault number e = subst (λ (r : Reading). Fits r old) (sym (reached_fault file p filling.at number e)) fits
