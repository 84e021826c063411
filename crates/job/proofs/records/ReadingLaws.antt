-- What is known of a record that was read, and the records of a file one by one.
use mathlib.Core.Path.{◌≡◌, refl, sym, ap, subst, ◌∙◌}
use mathlib.Core.Bool.{Bool, true, false}
use mathlib.Core.List.{List, [], ◌∷◌, ◌++◌}
use Prim.Native.Nat.{ℕ, zero, suc, ◌+◌, ◌*◌, ◌^◌, ◌<◌, ◌≤◌}
use native.Mathlib.Omega.{arith}
use lib.Dec.{leb}
use lib.ListN.{length, get_or, take, drop, length-drop}
use lib.Seq.{drop-drop}
use lib.Ieee as Ieee
use lib.Ieee.{binary64, of_bits}
use borrow.Author.Tests.{leb-true}
use Rattle.math.specs.Scalar.{f1}
use Rattle.geometry.specs.EdgeSegment.{to_stored}
use Rattle.geometry.specs.declared.edge_segment.EdgeSegment.{EdgeSegment}
use Rattle.coloring.specs.Lists.{all}
use Rattle.coloring.specs.Bools.{and_left, and_right}
use Rattle.coloring.specs.PairOrder.{valid_distance, distances_valid}
use Rattle.coloring.specs.Outline.{between, in_range, used_places, max-coordinate}
use Rattle.coloring.specs.Limits.{max_distances}
use Rattle.job.specs.declared.records.Kind.{Kind}
use Rattle.job.specs.declared.records.Kind.TheVariants.{Line, Quadratic, Cubic}
use Rattle.job.specs.declared.records.Mark.{Mark}
use Rattle.job.specs.declared.records.Mark.TheVariants.{Header, Balanced, Contour, Edge, Distances, End}
use Rattle.std.specs.Prelude.{Option, Some, None, Result, Ok, Err}
use Rattle.coloring.specs.Refusal.{refusal_number}
use Rattle.coloring.specs.declared.refusal.Refusal.{Refusal}
use Rattle.job.specs.declared.records.Header as fields
use Rattle.job.specs.declared.records.State.{State}
use Rattle.job.specs.declared.records.Item.{Item}
use Rattle.job.specs.Patterns.{number, words, floats, is_threshold, is_coordinate, is_distance}
use Rattle.job.specs.Records.{strategy_of, record_mark, marked, fields_of, bytes_of, Record, header, balanced, contour, edge, distances, Step, next, ends}
use Rattle.job.specs.Records.{fails, step_if, known_strategy, controls, body_size, allowed, below_maximum, kind_of, edge_of, record_size, item_of, mark_of}
use Rattle.job.specs.Records.{finds, finished, faulty, found_of, found_answer, item_size}
use Rattle.job.specs.Records.{read_header, read_edge, read_distances, read_end, read_body, read_marked, read_record, after, Records, complete, fault}
use Rattle.job.specs.Records.{◌then◌, records_within, records_from}
use Rattle.job.specs.Job.{threshold_of}
use Rattle.job.proofs.patterns.PatternLaws.{AreBytes, floats-length}
use Rattle.job.proofs.patterns.PatternMeaning.{threshold_means, coordinate_means, distance-below, distance_means}
use Rattle.job.proofs.records.BytesLaws.{Lettered, letters_of, marked-bytes, header-below, header-bytes, edge-bytes, distances-bytes}
use Rattle.job.proofs.records.RecordLaws.{Allowed, kind_of_edge, size_is, size_some}

-- ---- a record that was read

-- the floats of a record are those of its bytes, and its distances are not too many
abbrev pub Held : Record → List ℕ → Type 0
Held (header h) bytes = AreBytes bytes → (h.seed < 2 ^ 64) × (h.threshold < 2 ^ 64)
Held balanced bytes = Unit
Held contour bytes = Unit
Held (edge e) bytes = e ≡ edge_of (kind_of e) (floats (words (2 * controls (kind_of e)) (take (16 * controls (kind_of e)) (drop 2 bytes))))
Held (distances ds) bytes = (length ds ≤ max_distances) × (ds ≡ floats (words (length ds) (drop 4 bytes)))

-- an edge's coordinates lie within their range
abbrev pub edge_fits : EdgeSegment → Bool
edge_fits e = all in_range (take (used_places (to_stored e).kind) (to_stored e).points)

-- the floats of a record lie within their ranges
abbrev pub InRange : Record → Type 0
InRange (header h) = between (Ieee.neg f1) (threshold_of h) f1 ≡ true
InRange balanced = Unit
InRange contour = Unit
InRange (edge e) = edge_fits e ≡ true
InRange (distances ds) = distances_valid ds ≡ true

pub record Taken (s : State) (bytes : List ℕ) (r : Record) (rest : List ℕ) : Type 0 where
  pub may : Allowed s (record_mark r)
  pub room : below_maximum s.numbers (record_mark r) ≡ true
  pub whole : record_size r ≤ length bytes
  pub beyond : rest ≡ drop (record_size r) bytes
  pub held : Held r bytes
  pub is_bytes : AreBytes bytes → bytes ≡ bytes_of r ++ rest
  pub is_in_range : InRange r

abbrev OfStep : State → List ℕ → Step → Type 0
OfStep s bytes (next r rest) = Taken s bytes r rest
OfStep s bytes ends = (bytes ≡ marked End []) × Allowed s End
OfStep s bytes (fails number) = Unit

-- a test passes, or there is nothing to show
required : (s : State) (bytes : List ℕ) (b : Bool) (number : ℕ) (step : Step) → (b ≡ true → OfStep s bytes step)
    → OfStep s bytes (step_if b number step)
required s bytes true number step f = f refl
required s bytes false number step f = tt

-- ---- what the tests of patterns mean of a record's floats

threshold_fits : (h : fields.Header) → is_threshold h.threshold ≡ true → InRange (header h)
unfolding of_bits
threshold_fits h within = sym (threshold_means h.threshold) ∙ within

coordinates_fit_lem : (ps : List ℕ) → all in_range (floats ps) ≡ all is_coordinate ps
unfolding floats
coordinates_fit_lem [] = refl
coordinates_fit_lem (b ∷ ps) =
    let one : in_range (of_bits binary64 b) ≡ is_coordinate b = rw max-coordinate (sym (coordinate_means b)) in
    rw (one, coordinates_fit_lem ps)

distances_fit : (ps : List ℕ) → all is_distance ps ≡ true → distances_valid (floats ps) ≡ true
unfolding floats valid_distance of_bits
distances_fit [] h = refl
distances_fit (b ∷ ps) h =
    let here : is_distance b ≡ true = and_left (is_distance b) (all is_distance ps) h in
    let valid : valid_distance (of_bits binary64 b) ≡ true = sym (distance_means b (distance-below b here)) ∙ here in
    rw valid (distances_fit ps (and_right (is_distance b) (all is_distance ps) h))

edge_fits_lem : (kind : Kind) (body : List ℕ) → all is_coordinate (words (2 * controls kind) body) ≡ true
    → edge_fits (edge_of kind (floats (words (2 * controls kind) body))) ≡ true
unfolding to_stored words floats
edge_fits_lem Line body h = coordinates_fit_lem (words 4 body) ∙ h
edge_fits_lem Quadratic body h = coordinates_fit_lem (words 6 body) ∙ h
edge_fits_lem Cubic body h = coordinates_fit_lem (words 8 body) ∙ h

-- ---- record by record

end_taken : (s : State) (a b : ℕ) (bytes : List ℕ) → Lettered a b End → Allowed s End → OfStep s (a ∷ b ∷ bytes) (read_end bytes)
unfolding read_end
end_taken s a b [] l may = (rw (l.0, l.1), may)
end_taken s a b (c ∷ bytes) l may = tt

module _ (s : State) (a b : ℕ) (bytes : List ℕ) where
  abbrev all-bytes : List ℕ
  all-bytes = a ∷ b ∷ bytes

  -- the bytes after the letters are bytes
  after_letters : AreBytes all-bytes → AreBytes bytes
  after_letters h i = h (suc (suc i))

  header-taken : Lettered a b Header → Allowed s Header → below_maximum s.numbers Header ≡ true → 17 ≤ length bytes
      → OfStep s all-bytes (read_header (take 17 bytes) (drop 17 bytes))
  unfolding read_header
  header-taken l may room whole =
      let body = take 17 bytes in
      let threshold = number (take 8 (drop 9 body)) in
      let h : fields.Header = record { strategy = strategy_of (get_or body 0 0); seed = number (take 8 (drop 1 body)); threshold = threshold } in
      let found = next (header h) (drop 17 bytes) in
      required s all-bytes (known_strategy (get_or body 0 0)) 5 (step_if (is_threshold threshold) 6 found)
      (λ known. required s all-bytes (is_threshold threshold) 6 found
      (λ within. record {
        may = may;
        room = room;
        whole = omega (arith, size_is (header h));
        beyond = rw (size_is (header h));
        held = λ are. header-below bytes (after_letters are) whole;
        is_bytes = λ are. marked-bytes a b bytes _ (header h) l (header-bytes bytes (after_letters are) whole known);
        is_in_range = threshold_fits h within;
      }))

  -- a mark alone
  alone_taken : (r : Record) → Lettered a b (record_mark r) → Allowed s (record_mark r) → below_maximum s.numbers (record_mark r) ≡ true
      → fields_of r ≡ [] → record_size r ≡ 2 → Held r all-bytes → InRange r → Taken s all-bytes r bytes
  alone_taken r l may room none takes held fits = record {
    may = may;
    room = room;
    whole = omega (arith, takes);
    beyond = rw takes;
    held = held;
    is_bytes = λ are. marked-bytes a b bytes bytes r l (rw none);
    is_in_range = fits;
  }

  edge-taken : (kind : Kind) → Lettered a b (Edge kind) → Allowed s (Edge kind) → below_maximum s.numbers (Edge kind) ≡ true
      → 16 * controls kind ≤ length bytes
      → OfStep s all-bytes (read_edge kind (take (16 * controls kind) bytes) (drop (16 * controls kind) bytes))
  unfolding read_edge
  edge-taken kind l may room whole =
      let body = take (16 * controls kind) bytes in
      let ps = words (2 * controls kind) body in
      let e = edge_of kind (floats ps) in
      let same : kind_of e ≡ kind = kind_of_edge kind (floats ps) in
      let takes : record_size (edge e) ≡ 2 + 16 * controls kind = omega (arith, size_is (edge e), ap controls same) in
      required s all-bytes (all is_coordinate ps) 7 (next (edge e) (drop (16 * controls kind) bytes))
      (λ within. record {
        may = may;
        room = room;
        whole = omega (arith, takes);
        beyond = rw takes (drop-drop (16 * controls kind) 2 all-bytes);
        held = rw same;
        is_bytes = λ are. marked-bytes a b bytes _ (edge e) (rw same l) (edge-bytes bytes (after_letters are) kind whole within);
        is_in_range = edge_fits_lem kind body within;
      })

  distances-taken : Lettered a b Distances → Allowed s Distances → 2 ≤ length bytes → OfStep s all-bytes (read_distances (take 2 bytes) (drop 2 bytes))
  unfolding read_distances
  distances-taken l may whole =
      let count = number (take 2 bytes) in
      let rest = drop 2 bytes in
      let patterns = words count rest in
      let found = next (distances (floats patterns)) (drop (8 * count) rest) in
      let size : length (floats patterns) ≡ count = floats-length count rest in
      let takes : record_size (distances (floats patterns)) ≡ 4 + 8 * count = omega (arith, size_is (distances (floats patterns)), size) in
      required s all-bytes (leb count max_distances) 4
      (step_if (leb (8 * count) (length rest)) 1 (step_if (all is_distance patterns) 9 found))
      (λ few. required s all-bytes (leb (8 * count) (length rest)) 1 (step_if (all is_distance patterns) 9 found)
      (λ there. required s all-bytes (all is_distance patterns) 9 found
      (λ within. record {
        may = may;
        room = refl;
        whole = omega (arith, takes, leb-true (8 * count) (length rest) there, length-drop 2 bytes);
        beyond = rw takes (drop-drop (8 * count) 4 all-bytes);
        held = (omega (arith, size, leb-true count max_distances few), rw size);
        is_bytes = λ are. marked-bytes a b bytes _ (distances (floats patterns)) l
            (distances-bytes bytes (after_letters are) whole (leb-true (8 * count) (length rest) there) within);
        is_in_range = distances_fit patterns within;
      })))

  body-taken : (mark : Mark) → Lettered a b mark → Allowed s mark → below_maximum s.numbers mark ≡ true → body_size mark ≤ length bytes
      → OfStep s all-bytes (read_body mark (take (body_size mark) bytes) (drop (body_size mark) bytes))
  unfolding read_body fields_of
  body-taken Header l may room whole = header-taken l may room whole
  body-taken Balanced l may room whole = alone_taken balanced l may room refl (size_is balanced) tt tt
  body-taken Contour l may room whole = alone_taken contour l may room refl (size_is contour) tt tt
  body-taken (Edge kind) l may room whole = edge-taken kind l may room whole
  body-taken Distances l may room whole = distances-taken l may whole
  body-taken End l may room whole = end_taken s a b bytes l may

  marked-taken : (m : Option Mark) → mark_of a b ≡ m → OfStep s all-bytes (read_marked s m bytes)
  unfolding read_marked
  marked-taken None is = tt
  marked-taken (Some mark) is =
      let body = read_body mark (take (body_size mark) bytes) (drop (body_size mark) bytes) in
      let sized = step_if (leb (body_size mark) (length bytes)) 1 body in
      required s all-bytes (allowed s.phase s.numbers.header.strategy mark) 3 (step_if (below_maximum s.numbers mark) 4 sized)
      (λ may. required s all-bytes (below_maximum s.numbers mark) 4 sized
      (λ room. required s all-bytes (leb (body_size mark) (length bytes)) 1 body
      (λ whole. body-taken mark (letters_of a b mark is) may room (leb-true (body_size mark) (length bytes) whole))))

of_step : (s : State) (bytes : List ℕ) → OfStep s bytes (read_record s bytes)
unfolding read_record
of_step s [] = tt
of_step s (a ∷ []) = tt
of_step s (a ∷ b ∷ bytes) = marked-taken s a b bytes (mark_of a b) refl

pub taken : (s : State) (bytes : List ℕ) (r : Record) (rest : List ℕ) → read_record s bytes ≡ next r rest → Taken s bytes r rest
taken s bytes r rest e = subst (OfStep s bytes) e (of_step s bytes)

pub end_is : (s : State) (bytes : List ℕ) → read_record s bytes ≡ ends → bytes ≡ marked End []
end_is s bytes e = (subst (OfStep s bytes) e (of_step s bytes)).0

pub end_may : (s : State) (bytes : List ℕ) → read_record s bytes ≡ ends → Allowed s End
end_may s bytes e = (subst (OfStep s bytes) e (of_step s bytes)).1

pub end_size : (s : State) (bytes : List ℕ) → read_record s bytes ≡ ends → length bytes ≡ 2
end_size s bytes e = ap length (end_is s bytes e)

shorter : {s : State} {bytes : List ℕ} {r : Record} {rest : List ℕ} → Taken s bytes r rest → length rest + 2 ≤ length bytes
shorter {bytes = bytes} {r = r} t = omega (arith, ap length t.beyond, length-drop (record_size r) bytes, size_some r, t.whole)

-- ---- the records of some bytes, one by one

-- as many turns as bytes are enough
enough : (n m : ℕ) (s : State) (bytes : List ℕ) → length bytes ≤ n → length bytes ≤ m → records_within n s bytes ≡ records_within m s bytes
unfolding records_within
enough zero zero s bytes h k = refl
enough zero (suc m) s [] h k = refl
enough zero (suc m) s (b ∷ bytes) h k = absurd (omega arith)
enough (suc n) zero s [] h k = refl
enough (suc n) zero s (b ∷ bytes) h k = absurd (omega arith)
enough (suc n) (suc m) s bytes h k = go (read_record s bytes) (of_step s bytes) (λ s' rest h' k'. enough n m s' rest h' k')
  where
    go : (step : Step) → OfStep s bytes step
        → ((s' : State) (rest : List ℕ) → length rest ≤ n → length rest ≤ m → records_within n s' rest ≡ records_within m s' rest)
        → ◌≡◌ {A = Records}
        (elim step [ next r rest ↦ r then records_within n (after s (item_of r)) rest | ends ↦ complete | fails number ↦ fault number ])
        (elim step [ next r rest ↦ r then records_within m (after s (item_of r)) rest | ends ↦ complete | fails number ↦ fault number ])
    go (next r rest) t same = ap (λ (x : Records). r then x) (same (after s (item_of r)) rest (omega (arith, shorter t)) (omega (arith, shorter t)))
    go ends t same = refl
    go (fails number) t same = refl

-- what reading the first record makes of the rest
abbrev proceed : State → Step → Records
proceed s (next r rest) = r then records_from (after s (item_of r)) rest
proceed s ends = complete
proceed s (fails number) = fault number

records_step : (s : State) (bytes : List ℕ) → records_from s bytes ≡ proceed s (read_record s bytes)
unfolding records_from read_record
records_step s [] = refl
records_step s (b ∷ bytes) = go (read_record s (b ∷ bytes)) (of_step s (b ∷ bytes))
  where
    go : (step : Step) → OfStep s (b ∷ bytes) step
        → elim step [ next r rest ↦ r then records_within (length bytes) (after s (item_of r)) rest | ends ↦ complete | fails number ↦ fault number ]
        ≡ proceed s step
    go (next r rest) t = ap (λ (x : Records). r then x)
        (enough (length bytes) (length rest) (after s (item_of r)) rest (omega (arith, shorter t)) (omega arith))
    go ends t = refl
    go (fails number) t = refl

pub records_next : (s : State) (bytes : List ℕ) (r : Record) (rest : List ℕ) → read_record s bytes ≡ next r rest
    → records_from s bytes ≡ r then records_from (after s (item_of r)) rest
records_next s bytes r rest e = records_step s bytes ∙ ap (proceed s) e

pub records_end : (s : State) (bytes : List ℕ) → read_record s bytes ≡ ends → records_from s bytes ≡ complete
records_end s bytes e = records_step s bytes ∙ ap (proceed s) e

pub records_fault : (s : State) (bytes : List ℕ) (number : ℕ) → read_record s bytes ≡ fails number → records_from s bytes ≡ fault number
records_fault s bytes number e = records_step s bytes ∙ ap (proceed s) e

-- ---- from what the code finds to what the definition reads

pub record Read-as (step : Step) (item : Item) (size : ℕ) : Type 0 where
  pub r : Record
  pub rest : List ℕ
  pub is_next : step ≡ next r rest
  pub is_item : item_of r ≡ item
  pub is_size : record_size r ≡ size

found_item : (step : Step) (item : Item) (size : ℕ) → finds item size ≡ found_of step → Read-as step item size
found_item (next r rest) item size e = record { r = r; rest = rest; is_next = refl; is_item = cc; is_size = cc }
found_item ends item size e = let z : ◌≡◌ {A = ℕ} 0 1 = cc in absurd (omega arith)
found_item (fails number) item size e = let z : ◌≡◌ {A = ℕ} 0 1 = cc in absurd (omega arith)

found_end : (step : Step) → finished ≡ found_of step → step ≡ ends
found_end (next r rest) e = cc
found_end ends e = refl
found_end (fails number) e = cc

found-fails : (step : Step) (number : ℕ) → faulty number ≡ found_of step → step ≡ fails number
found-fails (next r rest) number e = cc
found-fails ends number e = cc
found-fails (fails other) number e = cc

-- the same by cases of what the code gives
module _ (result : Result (Option Item) Refusal) (step : Step) (e : found_answer result ≡ found_of step) where
  pub reads_item : (item : Item) → result ≡ Ok (Some item) → Read-as step item (item_size item)
  reads_item item is = found_item step item (item_size item) (sym (ap found_answer is) ∙ e)

  pub reads_end : result ≡ Ok None → step ≡ ends
  reads_end is = found_end step (sym (ap found_answer is) ∙ e)

  pub reads_fault : (r : Refusal) → result ≡ Err r → step ≡ fails (refusal_number r)
  reads_fault r is = found-fails step (refusal_number r) (sym (ap found_answer is) ∙ e)
