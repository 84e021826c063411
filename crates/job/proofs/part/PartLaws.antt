-- The search for a contour: what it has found so far is the place of that contour in the job so far, and lies in the
-- file.
use mathlib.Core.Path.{◌≡◌, refl, sym, ap, subst, ◌∙◌}
use mathlib.Core.Logic.{◌⊎◌, inl, inr}
use mathlib.Core.Bool.{true, false}
use mathlib.Core.List.{List, [], ◌∷◌, ◌++◌, map, append_assoc, append-nil, flatten}
use Prim.Native.Nat.{ℕ, zero, suc, ◌+◌, ◌≤◌, ◌<◌}
use native.Mathlib.Omega.{arith}
use lib.Ieee.{Float}
use lib.ListN.{length, take, drop, get_or, length-append, get_or-append}
use lib.Seq.{take_all, take-suc, take-append-le}
use borrow.Author.Tests.{lt-ltb, le-ltb}
use Rattle.geometry.specs.declared.edge_segment.EdgeSegment.{EdgeSegment}
use Rattle.coloring.specs.Answers.{gives, refusal, succeeds}
use Rattle.coloring.specs.declared.settings.Division.{Division}
use Rattle.job.specs.declared.records.Header as fields
use Rattle.job.specs.declared.records.Item.{Item}
use Rattle.job.specs.declared.records.Item.TheVariants.{Header, Balanced, Contour, Edge, Distances}
use Rattle.job.specs.declared.records.Phase.{Phase}
use Rattle.job.specs.declared.records.Strategy.{Strategy}
use Rattle.job.specs.declared.records.Strategy.TheVariants.{Simple}
use Rattle.job.specs.declared.progress.Progress.{Progress}
use Rattle.job.specs.declared.part.Span.{Span}
use Rattle.job.specs.declared.part.Seek.{Seek}
use Rattle.job.specs.declared.part.Seek.TheVariants.{Passing, Open, Done}
use Rattle.job.specs.Records.{Record, header, balanced, contour, edge, distances, ends, fails, among, inside, closing, allowed, record_mark}
use Rattle.job.specs.Records.{item_of, phase_after, read_record}
use Rattle.job.specs.Job.{Job, with_edge, with_record, Reading, read_job, contour_records, outline_records, record_bytes}
use Rattle.job.specs.Progress.{begin, advanced}
use Rattle.job.specs.Color.{accept_job, accepted}
use Rattle.job.specs.Part.{nowhere, span_in, place_in, sought, span_of, contour_place, contour_part}
use Rattle.job.proofs.records.ReadingLaws.{Read-as}
use Rattle.job.proofs.progress.SoFarLaws.{outlined, so_far, among_so_far, inside-among, Fresh, Bare, bytes-append, outline-more}
use Rattle.job.proofs.progress.ProgressLaws.{Reached, reached_begin, begin_job, reached_next, next_job, reached_end, reached_fault}
use Rattle.job.proofs.progress.ProgressLaws.{record_taken, not_closing, with_edge_length, further}

-- what was found lies before a place
abbrev Before : Seek → ℕ → Type 0
Before (Passing left) at = Unit
Before (Open from) at = from ≤ at
Before (Done span) at = (span.start ≤ span.end) × (span.end ≤ at)

before-next : (q : Seek) (at next : ℕ) (item : Item) → at ≤ next → Before q at → Before (sought q at item) next
unfolding sought
before-next (Passing zero) at next Contour h b = h
before-next (Passing (suc left)) at next Contour h b = tt
before-next (Passing left) at next (Header x) h b = tt
before-next (Passing left) at next Balanced h b = tt
before-next (Passing left) at next (Edge kind) h b = tt
before-next (Passing left) at next (Distances count) h b = tt
before-next (Open from) at next (Edge kind) h b = omega arith
before-next (Open from) at next (Header x) h b = (b, h)
before-next (Open from) at next Balanced h b = (b, h)
before-next (Open from) at next Contour h b = (b, h)
before-next (Open from) at next (Distances count) h b = (b, h)
before-next (Done span) at next item h b = (b.0, omega (arith, b.1))

-- ---- the contours before one, and that one

with_edge_take : (contours : List (List EdgeSegment)) (e : EdgeSegment) (n : ℕ) → n < length contours → take n (with_edge contours e) ≡ take n contours
unfolding with_edge
with_edge_take [] e n h = refl
with_edge_take (c ∷ []) e zero h = refl
with_edge_take (c ∷ []) e (suc n) h = absurd (omega arith)
with_edge_take (c ∷ d ∷ contours) e zero h = refl
with_edge_take (c ∷ d ∷ contours) e (suc n) h = ap (λ (x : List (List EdgeSegment)). c ∷ x) (with_edge_take (d ∷ contours) e n (omega arith))

with_edge_get : (contours : List (List EdgeSegment)) (e : EdgeSegment) (n : ℕ) → n + 2 ≤ length contours → get_or (with_edge contours e) n [] ≡ get_or
    contours n []
unfolding with_edge
with_edge_get [] e n h = refl
with_edge_get (c ∷ []) e n h = absurd (omega arith)
with_edge_get (c ∷ d ∷ contours) e zero h = refl
with_edge_get (c ∷ d ∷ contours) e (suc n) h = with_edge_get (d ∷ contours) e n (omega arith)

-- the bytes before the contour
abbrev start_in : Job → ℕ → ℕ
start_in job number = length (record_bytes (outline_records job.header job.division (take number job.contours)))

abbrev span_from : ℕ → List EdgeSegment → Span
span_from start own = record { start = start; end = start + length (record_bytes (contour_records own)) }

span_is : (job : Job) (number : ℕ) → span_in job number ≡ span_from (start_in job number) (get_or job.contours number [])
unfolding span_in
span_is job number = refl

span_same : (job other : Job) (number : ℕ) → start_in job number ≡ start_in other number
    → get_or job.contours number [] ≡ get_or other.contours number [] → span_in job number ≡ span_in other number
span_same job other number s g = span_is job number ∙ rw (s, g) (sym (span_is other number))

concat-last : (contours : List (List EdgeSegment)) (c : List EdgeSegment)
    → flatten (map contour_records (contours ++ (c ∷ []))) ≡ flatten (map contour_records contours) ++ contour_records c
unfolding flatten
concat-last [] c = append-nil (contour_records c)
concat-last (d ∷ contours) c = rw (concat-last contours c) (sym (append_assoc (contour_records d) (flatten (map contour_records contours)) (contour_records c)))

outline-last : (h : fields.Header) (division : Division) (contours : List (List EdgeSegment)) (n : ℕ) → suc n ≡ length contours
    → outline_records h division contours ≡ outline_records h division (take n contours) ++ contour_records (get_or contours n [])
outline-last h division contours n e =
    let split : take n contours ++ (get_or contours n [] ∷ []) ≡ contours =
    sym (take-suc contours n [] (omega arith)) ∙ take_all (suc n) contours (omega arith) in
    outline-more h division (take n contours) contours (contour_records (get_or contours n []))
    (ap (λ (x : List (List EdgeSegment)). flatten (map contour_records x)) (sym split) ∙ concat-last (take n contours) (get_or contours n []))

-- from the start of the last contour up to the end of the outline
span_last : (job : Job) (number at : ℕ) → suc number ≡ length job.contours → at ≡ length (record_bytes (outlined job))
    → record { start = start_in job number; end = at } ≡ span_in job number
unfolding span_in
span_last job number at e placed =
    let before = outline_records job.header job.division (take number job.contours) in
    let own = contour_records (get_or job.contours number []) in
    let size : at ≡ length (record_bytes before) + length (record_bytes own) =
    placed ∙ ap (λ (x : List Record). length (record_bytes x)) (outline-last job.header job.division job.contours number e)
    ∙ ap length (bytes-append before own) ∙ length-append (record_bytes before) (record_bytes own) in
    rw size

-- ---- what was found so far

abbrev FoundSoFar : ℕ → Job → Phase → Seek → Type 0
FoundSoFar number job phase (Passing left) = length job.contours + left ≡ number
FoundSoFar number job phase (Open from) = (suc number ≡ length job.contours) × (inside phase ≡ true) × (from ≡ start_in job number)
FoundSoFar number job phase (Done span) = (number < length job.contours) × (span ≡ span_in job number)
    × ((number + 2 ≤ length job.contours) ⊎ (closing phase ≡ true))

module _ (job : Job) (number : ℕ) where
  abbrev more : Job
  more = with_record job contour

  more-length : length more.contours ≡ suc (length job.contours)
  unfolding with_record
  more-length = length-append job.contours ([] ∷ []) ∙ omega arith

  start-more : number ≤ length job.contours → start_in more number ≡ start_in job number
  unfolding with_record
  start-more h = rw (take-append-le number job.contours ([] ∷ []) h)

  span_more : number < length job.contours → span_in more number ≡ span_in job number
  unfolding with_record
  span_more h = span_same more job number (start-more (omega arith)) (get_or-append job.contours ([] ∷ []) [] number h)

  module _ (ds : List Float) where
    closed-length : length (with_record job (distances ds)).contours ≡ length job.contours
    unfolding with_record
    closed-length = refl

    span_closed : span_in (with_record job (distances ds)) number ≡ span_in job number
    unfolding with_record
    span_closed = span_same (with_record job (distances ds)) job number refl refl

  module _ (e : EdgeSegment) where
    abbrev with : Job
    with = with_record job (edge e)

    with-length : length with.contours ≡ length job.contours
    unfolding with_record
    with-length = with_edge_length job.contours e

    start-with : number < length job.contours → start_in with number ≡ start_in job number
    unfolding with_record
    start-with h = rw (with_edge_take job.contours e number h)

    span_with : number + 2 ≤ length job.contours → span_in with number ≡ span_in job number
    unfolding with_record
    span_with h = span_same with job number (start-with (omega arith)) (with_edge_get job.contours e number h)

-- a record more, which starts at a place
module _ (number : ℕ) (job : Job) (phase : Phase) (by : Strategy) (at : ℕ) (placed : at ≡ length (record_bytes (so_far phase job)))
    (fresh : Fresh phase → Bare job) where
  placed_outline : among phase ≡ true → at ≡ length (record_bytes (outlined job))
  placed_outline h = placed ∙ ap (λ (x : List Record). length (record_bytes x)) (among_so_far phase job h)

  all-before : length job.contours ≤ number → start_in job number ≡ length (record_bytes (outlined job))
  all-before h = rw (take_all number job.contours h)

  found-next : (q : Seek) (r : Record) → allowed phase by (record_mark r) ≡ true → closing phase ≡ false → FoundSoFar number job phase q
      → FoundSoFar number (with_record job r) (phase_after phase (item_of r)) (sought q at (item_of r))
  unfolding sought
  found-next (Passing left) (header h) may still f = unfold with_record in f
  found-next (Passing left) balanced may still f = unfold with_record in f
  found-next (Passing zero) contour may still f =
      (omega (arith, more-length job number), refl, placed_outline may ∙ sym (start-more job number (omega arith) ∙ all-before (omega arith)))
  found-next (Passing (suc left)) contour may still f = omega (arith, more-length job number)
  found-next (Passing left) (edge e) may still f = omega (arith, with-length job number e)
  found-next (Passing left) (distances ds) may still f = unfold with_record in f
  found-next (Open from) (header h) may still f = absurd (omega (arith, ap length (fresh (inl may)).0))
  found-next (Open from) balanced may still f = absurd (omega (arith, ap length (fresh (inr may)).0))
  found-next (Open from) contour may still f = (
    omega (arith, more-length job number),
    ap (λ (n : ℕ). record { start = n; end = at }) f.2 ∙ span_last job number at f.0 (placed_outline may)
        ∙ sym (span_more job number (omega arith)),
    inl (omega (arith, more-length job number)),
  )
  found-next (Open from) (edge e) may still f = (f.0 ∙ sym (with-length job number e), f.1, f.2 ∙ sym (start-with job number e (omega arith)))
  found-next (Open from) (distances ds) may still f = (
    omega (arith, closed-length job number ds),
    ap (λ (n : ℕ). record { start = n; end = at }) f.2 ∙ span_last job number at f.0 (placed_outline (inside-among phase f.1))
        ∙ sym (span_closed job number ds),
    inr refl,
  )
  found-next (Done span) (header h) may still f = absurd (omega (arith, ap length (fresh (inl may)).0))
  found-next (Done span) balanced may still f = absurd (omega (arith, ap length (fresh (inr may)).0))
  found-next (Done span) contour may still f = (
    omega (arith, more-length job number),
    f.1 ∙ sym (span_more job number f.0),
    inl (omega (arith, more-length job number)),
  )
  found-next (Done span) (edge e) may still f = go f.2
    where
      go : (number + 2 ≤ length job.contours) ⊎ (closing phase ≡ true) → FoundSoFar number (with_record job (edge e)) phase (Done span)
      go (inl k) = (omega (arith, with-length job number e), f.1 ∙ sym (span_with job number e k), inl (omega (arith, with-length job number e)))
      go (inr k) = let z : ◌≡◌ {A = ℕ} 0 1 = cc in absurd (omega arith)
  found-next (Done span) (distances ds) may still f = (omega (arith, closed-length job number ds), f.1 ∙ sym (span_closed job number ds), inr refl)

  found_end : (q : Seek) → FoundSoFar number job phase q → span_of q at ≡ place_in (gives job) number
  found_end (Passing left) f = rw (le-ltb number (length job.contours) (omega arith))
  found_end (Open from) f =
      rw (lt-ltb number (length job.contours) (omega arith))
      (ap (λ (n : ℕ). record { start = n; end = at }) f.2 ∙ span_last job number at f.0 (placed_outline (inside-among phase f.1)))
  found_end (Done span) f = rw (lt-ltb number (length job.contours) f.0) f.1

-- ---- in a file

pub record Seeking (file : List ℕ) (number : ℕ) (p : Progress) (q : Seek) : Type 0 where
  pub at : Reached file p
  pub found : FoundSoFar number at.job p.state.phase q
  pub before : Before q p.at

pub seeking_begin : (file : List ℕ) (number : ℕ) → Seeking file number begin (Passing number)
seeking_begin file number = record { at = reached_begin file; found = rw (begin_job file) (omega arith); before = tt }

module _ (file : List ℕ) (number : ℕ) (p : Progress) (q : Seek) (here : Seeking file number p q) where
  pub seeking_next : (item : Item) (size : ℕ) → Read-as (read_record p.state (drop p.at file)) item size
      → Seeking file number (advanced p item size) (sought q p.at item)
  seeking_next item size read =
      let at = here.at in
      let r = read.r in
      let may = (record_taken file p at r read.rest read.is_next).may in
      let found = found-next number at.job p.state.phase _ p.at at.placed at.fresh q r may (not_closing p.state r may) here.found in
      rw (← read.is_item, ← read.is_size)
      (record {
        at = reached_next file p at r read.rest read.is_next;
        found = subst (λ (j : Job). FoundSoFar number j (phase_after p.state.phase (item_of r)) (sought q p.at (item_of r)))
            (sym (next_job file p at r read.rest read.is_next)) found;
        before = before-next q p.at _ (item_of r) (omega (arith, further file p at r read.rest read.is_next)) here.before;
      })

  pub seeking_end : read_record p.state (drop p.at file) ≡ ends → span_of q p.at ≡ place_in (read_job file) number
  seeking_end e =
      found_end number here.at.job p.state.phase Simple p.at here.at.placed here.at.fresh q here.found
      ∙ ap (λ (r : Reading). place_in r number) (reached_end file p here.at e)

-- a file that is read meets no fault
pub seeking_fault : (file : List ℕ) (p : Progress) → Reached file p → succeeds (read_job file) ≡ true → (number : ℕ)
    → read_record p.state (drop p.at file) ≡ fails number → ⊥
seeking_fault file p at has number e =
    let no : succeeds {A = Job} (refusal number) ≡ true = ap succeeds (reached_fault file p at number e) ∙ has in
    let z : ◌≡◌ {A = ℕ} 0 1 = cc in
    omega arith

-- ---- the part

pub place-refused : (file : List ℕ) (number : ℕ) → accepted file ≡ false → contour_place file number ≡ nowhere
unfolding contour_place
place-refused file number h = go (accept_job file) h
  where
    go : (reading : Reading) → succeeds reading ≡ false → place_in reading number ≡ nowhere
    go (gives job) h = cc
    go (refusal reason) h = refl

pub part-refused : (file : List ℕ) (number : ℕ) → accepted file ≡ false → contour_part file number ≡ []
unfolding contour_part
part-refused file number h = rw (place-refused file number h)
