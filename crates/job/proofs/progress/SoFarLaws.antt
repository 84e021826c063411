-- The records read so far, in order: those of the job so far. At the end they are the job's, and what a file can hold
-- is in them.
use mathlib.Core.Path.{◌≡◌, refl, sym, ap, ◌∙◌}
use mathlib.Core.Logic.{◌⊎◌, inl, inr}
use mathlib.Core.Bool.{Bool, true, false}
use mathlib.Core.List.{List, [], ◌∷◌, ◌++◌, map, map-append, append-nil, append_assoc, flatten}
use Prim.Native.Nat.{ℕ, ◌*◌, ◌<◌}
use native.Mathlib.Omega.{arith}
use lib.Ieee.{binary64, fits, of_bits}
use lib.Ieee.Bits.{of_bits-fits}
use lib.ListN.{length}
use borrow.Author.Tests.{not-true}
use Rattle.geometry.specs.EdgeSegment.{to_stored}
use Rattle.geometry.specs.declared.edge_segment.EdgeSegment.{EdgeSegment}
use lib.Dec.{T}
use Rattle.coloring.specs.Bools.{and_left, and_right}
use Rattle.coloring.specs.declared.settings.Division.{Division}
use Rattle.coloring.specs.declared.settings.Division.TheVariants.{Source, Balanced}
use Rattle.job.specs.declared.records.Strategy.{Strategy}
use Rattle.job.specs.declared.records.Header as fields
use Rattle.job.specs.declared.records.Kind.{Kind}
use Rattle.job.specs.declared.records.Kind.TheVariants.{Line, Quadratic, Cubic}
use Rattle.job.specs.declared.records.Mark.TheVariants.{End}
use Rattle.job.specs.declared.records.Phase.{Phase}
use Rattle.job.specs.declared.records.Phase.TheVariants.{Start, Headed, Outside, Inside, Closing}
use Rattle.job.specs.Patterns.{words, floats}
use Rattle.job.specs.Records.{Record, header, balanced, contour, edge, distances, at_start, headed, inside, among, closing, by_distance, allowed}
use Rattle.job.specs.Records.{record_mark, item_of, phase_after, controls, coordinates, edge_of, bytes_of}
use Rattle.job.specs.Job.{Job, with_edge, with_record, contour_records, division_records, outline_records, records_of, record_bytes, doubles}
use Rattle.job.proofs.progress.ReadyLaws.{Ready}

-- ---- the records of some contours

contours-more : (contours : List (List EdgeSegment))
    → flatten (map contour_records (contours ++ ([] ∷ []))) ≡ flatten (map contour_records contours) ++ (contour ∷ [])
unfolding flatten
contours-more [] = refl
contours-more (c ∷ contours) = rw (contours-more contours) (sym (append_assoc (contour_records c) (flatten (map contour_records contours)) (contour ∷ [])))

contours-edge : (contours : List (List EdgeSegment)) (e : EdgeSegment) → 0 < length contours
    → flatten (map contour_records (with_edge contours e)) ≡ flatten (map contour_records contours) ++ (edge e ∷ [])
unfolding flatten with_edge
contours-edge [] e h = absurd (omega arith)
contours-edge (c ∷ []) e h =
    append-nil (contour_records (c ++ (e ∷ []))) ∙ ap (λ (x : List Record). contour ∷ x) (map-append edge c (e ∷ []))
    ∙ ap (λ (x : List Record). x ++ (edge e ∷ [])) (sym (append-nil (contour_records c)))
contours-edge (c ∷ d ∷ contours) e h =
    rw (contours-edge (d ∷ contours) e (omega arith)) (sym (append_assoc (contour_records c) (flatten (map contour_records (d ∷ contours))) (edge e ∷ [])))

pub bytes-append : (rs qs : List Record) → record_bytes (rs ++ qs) ≡ record_bytes rs ++ record_bytes qs
unfolding record_bytes
bytes-append [] qs = refl
bytes-append (r ∷ rs) qs = rw (bytes-append rs qs) (sym (append_assoc (bytes_of r) (record_bytes rs) (record_bytes qs)))

pub bytes-more : (rs : List Record) (r : Record) → record_bytes (rs ++ (r ∷ [])) ≡ record_bytes rs ++ bytes_of r
bytes-more rs r = bytes-append rs (r ∷ []) ∙ ap (λ (x : List ℕ). record_bytes rs ++ x) (unfold record_bytes in append-nil (bytes_of r))

-- ---- the records so far

abbrev pub outlined : Job → List Record
outlined job = outline_records job.header job.division job.contours

abbrev pub so_far : Phase → Job → List Record
so_far Start job = []
so_far Headed job = outlined job
so_far Outside job = outlined job
so_far Inside job = outlined job
so_far Closing job = outlined job ++ (distances job.distances ∷ [])

start_so_far : (phase : Phase) (job : Job) → at_start phase ≡ true → so_far phase job ≡ []
start_so_far Start job h = refl
start_so_far Headed job h = cc
start_so_far Outside job h = cc
start_so_far Inside job h = cc
start_so_far Closing job h = cc

pub among_so_far : (phase : Phase) (job : Job) → among phase ≡ true → so_far phase job ≡ outlined job
among_so_far Start job h = cc
among_so_far Headed job h = refl
among_so_far Outside job h = refl
among_so_far Inside job h = refl
among_so_far Closing job h = cc

pub headed-among : (phase : Phase) → headed phase ≡ true → among phase ≡ true
headed-among Start h = cc
headed-among Headed h = refl
headed-among Outside h = cc
headed-among Inside h = cc
headed-among Closing h = cc

pub inside-among : (phase : Phase) → inside phase ≡ true → among phase ≡ true
inside-among Start h = cc
inside-among Headed h = cc
inside-among Outside h = cc
inside-among Inside h = refl
inside-among Closing h = cc

-- up to BL there is no contour, and the division is the source's
abbrev pub Fresh : Phase → Type 0
Fresh phase = (at_start phase ≡ true) ⊎ (headed phase ≡ true)

abbrev pub Bare : Job → Type 0
Bare job = (job.contours ≡ []) × (job.division ≡ Source)

-- what more contours add to the records
pub outline-more : (h : fields.Header) (division : Division) (contours more : List (List EdgeSegment)) (rs : List Record)
    → flatten (map contour_records more) ≡ flatten (map contour_records contours) ++ rs
    → outline_records h division more ≡ outline_records h division contours ++ rs
unfolding outline_records
outline-more h division contours more rs e =
    rw e (ap (λ (x : List Record). header h ∷ x) (sym (append_assoc (division_records division) (flatten (map contour_records contours)) rs)))

outline-header : (h : fields.Header) (job : Job) → Bare job → outline_records h job.division job.contours ≡ header h ∷ []
unfolding outline_records flatten
outline-header h job bare = rw (bare.0, bare.1)

outline-balanced : (job : Job) → Bare job → outline_records job.header Balanced job.contours ≡ outlined job ++ (balanced ∷ [])
unfolding outline_records flatten
outline-balanced job bare = rw (bare.0, bare.1)

pub so_far_next : (job : Job) (phase : Phase) (by : Strategy) (r : Record) → allowed phase by (record_mark r) ≡ true → Ready job r
    → (Fresh phase → Bare job) → so_far (phase_after phase (item_of r)) (with_record job r) ≡ so_far phase job ++ (r ∷ [])
unfolding with_record
so_far_next job phase by (header h) may ready fresh = rw (start_so_far phase job may) (outline-header h job (fresh (inl may)))
so_far_next job phase by balanced may ready fresh =
    rw (among_so_far phase job (headed-among phase may)) (outline-balanced job (fresh (inr may)))
so_far_next job phase by contour may ready fresh =
    rw (among_so_far phase job may) (outline-more job.header job.division job.contours _ (contour ∷ []) (contours-more job.contours))
so_far_next job phase by (edge e) may ready fresh =
    let within = inside-among phase may in
    rw (among_so_far phase job within, among_so_far phase (with_record job (edge e)) within)
    (outline-more job.header job.division job.contours _ (edge e ∷ []) (contours-edge job.contours e ready))
so_far_next job phase by (distances ds) may ready fresh = rw (among_so_far phase job (and_left (among phase) (by_distance by) may))

pub so_far_end : (job : Job) (phase : Phase) → allowed phase job.header.strategy End ≡ true
    → (closing phase ≡ true → by_distance job.header.strategy ≡ true) → so_far phase job ≡ records_of job
unfolding records_of
so_far_end job Start may asked = cc
so_far_end job Headed may asked = rw (not-true (by_distance job.header.strategy) may) (sym (append-nil (outlined job)))
so_far_end job Outside may asked = rw (not-true (by_distance job.header.strategy) may) (sym (append-nil (outlined job)))
so_far_end job Inside may asked = rw (not-true (by_distance job.header.strategy) may) (sym (append-nil (outlined job)))
so_far_end job Closing may asked = rw (asked refl)

-- the strategy asks for distances where they were read
pub asked_next : (job : Job) (phase : Phase) (by : Strategy) (r : Record) → by ≡ job.header.strategy → allowed phase by (record_mark r) ≡ true
    → (closing phase ≡ true → by_distance job.header.strategy ≡ true) → closing (phase_after phase (item_of r)) ≡ true
    → by_distance (with_record job r).header.strategy ≡ true
unfolding with_record
asked_next job phase by (header h) e may asked c = cc
asked_next job phase by balanced e may asked c = cc
asked_next job phase by contour e may asked c = cc
asked_next job phase by (edge x) e may asked c = asked c
asked_next job phase by (distances ds) e may asked c = rw (← e) (and_right (among phase) (by_distance by) may)

never : {P : Type 0} → (false ≡ true) ⊎ (false ≡ true) → P
never (inl h) = let z : ◌≡◌ {A = ℕ} 0 1 = cc in absurd (omega arith)
never (inr h) = let z : ◌≡◌ {A = ℕ} 0 1 = cc in absurd (omega arith)

pub fresh_next : (job : Job) (phase : Phase) (by : Strategy) (r : Record) → allowed phase by (record_mark r) ≡ true → Ready job r
    → (Fresh phase → Bare job) → Fresh (phase_after phase (item_of r)) → Bare (with_record job r)
unfolding with_record
fresh_next job phase by (header h) may ready fresh f = fresh (inl may)
fresh_next job phase by balanced may ready fresh f = never f
fresh_next job phase by contour may ready fresh f = never f
fresh_next job phase by (edge e) may ready fresh f = absurd (omega (arith, ap length (fresh f).0))
fresh_next job phase by (distances ds) may ready fresh f = never f

-- ---- what a file can hold

pub floats-doubles : (ps : List ℕ) → doubles (floats ps) ≡ true
unfolding floats
floats-doubles [] = refl
floats-doubles (p ∷ ps) = rw (t_true (fits binary64 (of_bits binary64 p)) (of_bits-fits binary64 p), floats-doubles ps)
  where
    t_true : (b : Bool) → T b → b ≡ true
    t_true true h = refl
    t_true false h = absurd h

pub edge-doubles : (kind : Kind) (body : List ℕ) → doubles (coordinates (edge_of kind (floats (words (2 * controls kind) body)))) ≡ true
unfolding to_stored words floats
edge-doubles Line body = floats-doubles (words 4 body)
edge-doubles Quadratic body = floats-doubles (words 6 body)
edge-doubles Cubic body = floats-doubles (words 8 body)
