-- One record: what is found at it.
use mathlib.Core.Path.{◌≡◌, refl, ap}
use mathlib.Core.Bool.{Bool, true, false}
use mathlib.Core.List.{List, [], ◌∷◌}
use Prim.Native.Nat.{ℕ, ◌+◌, ◌*◌, ◌<◌, ◌≤◌}
use native.Mathlib.Omega.{arith}
use lib.Dec.{leb}
use lib.ListN.{length, get_or, take, drop}
use Rattle.geometry.specs.declared.edge_segment.EdgeSegment.TheVariants as segment
use Rattle.coloring.specs.Lists.{all}
use Rattle.coloring.specs.Limits.{max_distances}
use lib.Ieee.{Float}
use Rattle.coloring.specs.declared.refusal.Refusal.{Refusal}
use Rattle.coloring.specs.declared.refusal.Refusal.TheVariants.{UnknownKind}
use Rattle.job.specs.declared.records.Header as fields
use Rattle.job.specs.declared.records.Strategy.{Strategy}
use Rattle.job.specs.declared.records.Kind.{Kind}
use Rattle.job.specs.declared.records.Kind.TheVariants.{Line, Quadratic, Cubic}
use Rattle.job.specs.declared.records.State.{State}
use Rattle.job.specs.declared.records.Mark.{Mark}
use Rattle.std.specs.Prelude.{Result, Ok, Err, cond}
use Rattle.job.specs.declared.records.Item.TheVariants as item
use Rattle.job.specs.Patterns.{number, words, floats, is_threshold, is_coordinate, is_distance}
use Rattle.job.specs.Records.{Record, header, balanced, contour, edge, distances, next, fails, step_if, known_strategy, strategy_of, strategy_numbered}
use Rattle.job.specs.Records.{record_mark, bytes_of, record_size, controls, allowed, body_size}
use Rattle.job.specs.Records.{mark_of, read_marked, read_record}
use Rattle.job.specs.Records.{item_answer, finished, faulty, found_of, read_header, read_edge, read_distances, read_end, kind_of, edge_of}
use Rattle.job.proofs.patterns.PatternLaws.{floats-length, float_bytes_length}

-- ---- what is found does not turn on the bytes after a record

one_test : (b : Bool) (number : ℕ) (r : Record) (rest : List ℕ) → found_of (step_if b number (next r rest)) ≡ found_of (step_if b number (next r []))
one_test true number r rest = refl
one_test false number r rest = refl

two_tests : (a b : Bool) (number number' : ℕ) (r : Record) (rest : List ℕ)
    → found_of (step_if a number (step_if b number' (next r rest))) ≡ found_of (step_if a number (step_if b number' (next r [])))
two_tests true b number number' r rest = one_test b number' r rest
two_tests false b number number' r rest = refl

pub header-rest : (body rest : List ℕ) → found_of (read_header body rest) ≡ found_of (read_header body [])
unfolding read_header
header-rest body rest =
    let threshold = number (take 8 (drop 9 body)) in
    two_tests (known_strategy (get_or body 0 0)) (is_threshold threshold) 5 6
    (header (record { strategy = strategy_of (get_or body 0 0); seed = number (take 8 (drop 1 body)); threshold = threshold })) rest

pub edge-rest : (kind : Kind) (body rest : List ℕ) → found_of (read_edge kind body rest) ≡ found_of (read_edge kind body [])
unfolding read_edge
edge-rest kind body rest =
    let coordinates = words (2 * controls kind) body in
    one_test (all is_coordinate coordinates) 7 (edge (edge_of kind (floats coordinates))) rest

-- ---- the header

-- a number's strategy
pub record Strategic (n : ℕ) (strategy : Strategy) : Type 0 where
  pub known : known_strategy n ≡ true
  pub is_of : strategy ≡ strategy_of n

pub numbered_ok : (n : ℕ) (strategy : Strategy) → Ok strategy ≡ strategy_numbered n → Strategic n strategy
unfolding strategy_of
numbered_ok n strategy e = go (known_strategy n) refl e
  where
    go : (b : Bool) → known_strategy n ≡ b → ◌≡◌ {A = Result Strategy Refusal} (Ok strategy) (cond b (Ok (strategy_of n)) (Err UnknownKind))
        → Strategic n strategy
    go true known e = record { known = known; is_of = cc }
    go false known e = cc

pub numbered_err : (n : ℕ) (refusal : Refusal) → Err refusal ≡ strategy_numbered n → (refusal ≡ UnknownKind) × (known_strategy n ≡ false)
unfolding strategy_of
numbered_err n refusal e = go (known_strategy n) refl e
  where
    go : (b : Bool) → known_strategy n ≡ b → ◌≡◌ {A = Result Strategy Refusal} (Err refusal) (cond b (Ok (strategy_of n)) (Err UnknownKind))
        → (refusal ≡ UnknownKind) × (known_strategy n ≡ false)
    go true known e = (cc, cc)
    go false known e = (cc, known)

pub header-found : (body : List ℕ) (h : fields.Header) → Strategic (get_or body 0 0) h.strategy → h.seed ≡ number (take 8 (drop 1 body))
    → h.threshold ≡ number (take 8 (drop 9 body)) → is_threshold h.threshold ≡ true → item_answer (Ok (item.Header h)) ≡ found_of (read_header body [])
unfolding read_header bytes_of
header-found body h s seed threshold within = rw (s.known, ← s.is_of, ← threshold, within, ← seed)

-- ---- the end

pub end_empty : (rest : List ℕ) → length rest ≡ 0 → found_of (read_end rest) ≡ finished
unfolding read_end
end_empty [] h = refl
end_empty (b ∷ rest) h = absurd (omega arith)

pub end_more : (rest : List ℕ) → (length rest ≡ 0 → ⊥) → found_of (read_end rest) ≡ faulty 3
unfolding read_end
end_more [] h = absurd (h refl)
end_more (b ∷ rest) h = refl

-- ---- an edge

pub kind_of_edge : (kind : Kind) (ps : List Float) → kind_of (edge_of kind ps) ≡ kind
kind_of_edge Line ps = refl
kind_of_edge Quadratic ps = refl
kind_of_edge Cubic ps = refl

pub controls-few : (kind : Kind) → controls kind ≤ 4
controls-few Line = omega arith
controls-few Quadratic = omega arith
controls-few Cubic = omega arith

-- ---- the bytes of a record

-- how many of a record's bytes come after those that its mark asks for
abbrev pub beyond_body : Record → ℕ
beyond_body (header h) = 0
beyond_body balanced = 0
beyond_body contour = 0
beyond_body (edge e) = 0
beyond_body (distances ds) = 8 * length ds

pub size_is : (r : Record) → record_size r ≡ 2 + (body_size (record_mark r) + beyond_body r)
unfolding bytes_of
size_is (header h) = refl
size_is balanced = refl
size_is contour = refl
size_is (edge (segment.Line p0 p1)) = refl
size_is (edge (segment.Quadratic p0 p1 p2)) = refl
size_is (edge (segment.Cubic p0 p1 p2 p3)) = refl
size_is (distances ds) = omega (arith, float_bytes_length ds)

pub size_some : (r : Record) → 2 ≤ record_size r
size_some r = omega (arith, size_is r)

-- ---- an edge and the distances, found

pub edge-found : (kind : Kind) (body : List ℕ) → all is_coordinate (words (2 * controls kind) body) ≡ true
    → item_answer (Ok (item.Edge kind)) ≡ found_of (read_edge kind body [])
unfolding read_edge
edge-found kind body within =
    let ps = floats (words (2 * controls kind) body) in
    let takes : record_size (edge (edge_of kind ps)) ≡ 2 + 16 * controls kind =
    omega (arith, size_is (edge (edge_of kind ps)), ap controls (kind_of_edge kind ps)) in
    rw (within, takes, kind_of_edge)

pub distances-found : (body rest : List ℕ) (count : ℕ) → count ≡ number body → leb count max_distances ≡ true → leb (8 * count) (length rest) ≡ true
    → all is_distance (words count rest) ≡ true → item_answer (Ok (item.Distances count)) ≡ found_of (read_distances body rest)
unfolding read_distances
distances-found body rest count e few there within =
    let many = floats-length count rest in
    let takes : record_size (distances (floats (words count rest))) ≡ 4 + 8 * count = omega (arith, size_is (distances (floats (words count rest))), many) in
    rw (← e, few, there, within, takes, many)

-- ---- the mark

pub two_letters : (s : State) (bytes : List ℕ) → 2 ≤ length bytes → read_record s bytes ≡ read_marked s (mark_of (get_or bytes 0 0) (get_or bytes 1 0))
    (drop 2 bytes)
unfolding read_record
two_letters s [] h = absurd (omega arith)
two_letters s (a ∷ []) h = absurd (omega arith)
two_letters s (a ∷ b ∷ bytes) h = refl

pub no_letters : (s : State) (bytes : List ℕ) → length bytes < 2 → read_record s bytes ≡ fails 1
unfolding read_record
no_letters s [] h = refl
no_letters s (a ∷ []) h = refl
no_letters s (a ∷ b ∷ bytes) h = absurd (omega arith)

abbrev pub Allowed : State → Mark → Type 0
Allowed s mark = allowed s.phase s.numbers.header.strategy mark ≡ true
