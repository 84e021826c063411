-- Every accepted file has at most 33,179 bytes, and the first 34,000 bytes of any file decide how it is read, its
-- colouring and the part of a contour.
use mathlib.Core.Path.{◌≡◌, refl, sym, ap, ◌∙◌}
use mathlib.Core.Bool.{Bool, true, false}
use mathlib.Core.List.{List, [], ◌∷◌, ◌++◌}
use Prim.Native.Nat.{ℕ, zero, suc, ◌*◌, ◌-◌, ◌≤◌}
use native.Mathlib.Omega.{arith}
use lib.Dec.{leb}
use lib.ListN.{length, get_or, take, drop, length-append, length-drop, take-append-drop}
use lib.Seq.{drop-drop, take_all, take-append-le, drop-append-le, length-take-le}
use borrow.Author.Tests.{le-leb, leb-true, leb-false}
use Rattle.coloring.specs.Bools.{and_left}
use Rattle.coloring.specs.Lists.{all}
use Rattle.coloring.specs.Outline.{Result}
use Rattle.coloring.specs.Limits.{max_distances}
use Rattle.coloring.specs.Answers.{gives, refusal, succeeds}
use Rattle.job.specs.Limits.{max_file, deciding_bytes}
use Rattle.job.specs.declared.records.Kind.{Kind}
use Rattle.job.specs.declared.records.Mark.{Mark}
use Rattle.job.specs.declared.records.Mark.TheVariants.{Header, Balanced, Contour, Edge, Distances, End}
use Rattle.std.specs.Prelude.{Option, Some, None}
use Rattle.job.specs.declared.records.State.{State}
use Rattle.job.specs.declared.progress.Progress.{Progress}
use Rattle.job.specs.Patterns.{number, words, floats, is_threshold, is_coordinate, is_distance}
use Rattle.job.specs.Records.{Record, header, edge, distances, Step, next, ends, fails, step_if, known_strategy, strategy_of, controls, body_size}
use Rattle.job.specs.Records.{allowed, below_maximum, closing, among, by_distance, edge_of, item_of, record_size, mark_of, read_header, read_edge}
use Rattle.job.specs.Records.{read_distances, read_end, read_body, read_marked, read_record, after, Records, ◌then◌, records_from}
use Rattle.job.specs.Job.{no_job, job_from, Reading, read_job}
use Rattle.job.specs.Color.{color_reading, color_file, accept_reading, accept_job, accepted}
use Rattle.job.specs.Part.{contour_part}
use Rattle.job.specs.Listing.{reading_text, file_text}
use Rattle.job.specs.Progress.{begin, advanced}
use Rattle.job.proofs.records.RecordLaws.{Allowed, controls-few}
use Rattle.job.proofs.records.ReadingLaws.{taken, end_size, records_next, records_fault}
use Rattle.job.proofs.progress.ProgressLaws.{besides_most, among-contours, at-start, in_contour, Reached, reached_begin}
use Rattle.job.proofs.progress.ProgressLaws.{reached_next, further, bytes-few}
use Rattle.job.proofs.part.PartLaws.{part-refused}

-- a step with more bytes after it
abbrev extend : List ℕ → Step → Step
extend more (next r rest) = next r (rest ++ more)
extend more ends = ends
extend more (fails number) = fails number

-- so many numbers do not turn on the bytes after them
words_more : (n : ℕ) (bytes more : List ℕ) → 8 * n ≤ length bytes → words n (bytes ++ more) ≡ words n bytes
unfolding words
words_more zero bytes more h = refl
words_more (suc n) bytes more h =
    rw (take-append-le 8 bytes more (omega arith), drop-append-le 8 bytes more (omega arith), words_more n (drop 8 bytes) more (rw length-drop (omega arith)))

module _ (more : List ℕ) where
  step_if_more : (b : Bool) (number : ℕ) (step step' : Step) → (b ≡ true → step' ≡ extend more step)
      → step_if b number step' ≡ extend more (step_if b number step)
  step_if_more true number step step' f = f refl
  step_if_more false number step step' f = refl

  header-more : (body rest : List ℕ) → read_header body (rest ++ more) ≡ extend more (read_header body rest)
  unfolding read_header
  header-more body rest =
      let threshold = number (take 8 (drop 9 body)) in
      let r = header (record { strategy = strategy_of (get_or body 0 0); seed = number (take 8 (drop 1 body)); threshold = threshold }) in
      step_if_more (known_strategy (get_or body 0 0)) 5 (step_if (is_threshold threshold) 6 (next r rest))
      (step_if (is_threshold threshold) 6 (next r (rest ++ more)))
      (λ h. step_if_more (is_threshold threshold) 6 (next r rest) (next r (rest ++ more)) (λ k. refl))

  edge_more : (kind : Kind) (body rest : List ℕ) → read_edge kind body (rest ++ more) ≡ extend more (read_edge kind body rest)
  unfolding read_edge
  edge_more kind body rest =
      let coordinates = words (2 * controls kind) body in
      let r = edge (edge_of kind (floats coordinates)) in
      step_if_more (all is_coordinate coordinates) 7 (next r rest) (next r (rest ++ more)) (λ h. refl)

  distances-more : (body rest : List ℕ) → 8 * max_distances ≤ length rest → read_distances body (rest ++ more) ≡ extend more (read_distances body rest)
  unfolding read_distances
  distances-more body rest enough =
      let count = number body in
      let read : List ℕ → Step = λ bytes. step_if (all is_distance (words count bytes)) 9
      (next (distances (floats (words count bytes))) (drop (8 * count) bytes)) in
      let there : List ℕ → Step = λ bytes. step_if (leb (8 * count) (length bytes)) 1 (read bytes) in
      step_if_more (leb count max_distances) 4 (there rest) (there (rest ++ more))
      (λ h.
      let few = leb-true count max_distances h in
      let one : leb (8 * count) (length rest) ≡ true = le-leb (8 * count) (length rest) (omega arith) in
      let two : leb (8 * count) (length (rest ++ more)) ≡ true = le-leb (8 * count) (length (rest ++ more)) (omega (arith, length-append rest more)) in
      rw (one, two, words_more count rest more (omega arith), drop-append-le (8 * count) rest more (omega arith))
      (step_if_more (all is_distance (words count rest)) 9 (next (distances (floats (words count rest))) (drop (8 * count) rest))
      (next (distances (floats (words count rest))) (drop (8 * count) rest ++ more)) (λ k. refl)))

  end_more : (rest : List ℕ) → 1 ≤ length rest → read_end (rest ++ more) ≡ extend more (read_end rest)
  unfolding read_end
  end_more [] h = absurd (omega arith)
  end_more (b ∷ rest) h = refl

  -- a record of a known mark, where its fixed part and what it needs after that are there
  known_more : (s : State) (mark : Mark) (bytes : List ℕ) → (Allowed s mark → body_size mark ≤ length bytes)
      → (Allowed s mark → read_body mark (take (body_size mark) bytes) (drop (body_size mark) bytes ++ more) ≡ extend more
      (read_body mark (take (body_size mark) bytes) (drop (body_size mark) bytes)))
      → read_marked s (Some mark) (bytes ++ more) ≡ extend more (read_marked s (Some mark) bytes)
  unfolding read_marked
  known_more s mark bytes size body =
      let n = body_size mark in
      let read : List ℕ → Step = λ b. step_if (leb n (length b)) 1 (read_body mark (take n b) (drop n b)) in
      step_if_more (allowed s.phase s.numbers.header.strategy mark) 3 (step_if (below_maximum s.numbers mark) 4 (read bytes))
      (step_if (below_maximum s.numbers mark) 4 (read (bytes ++ more)))
      (λ may. step_if_more (below_maximum s.numbers mark) 4 (read bytes) (read (bytes ++ more))
      (λ room.
      let whole = size may in
      let one : leb n (length bytes) ≡ true = le-leb n (length bytes) whole in
      let two : leb n (length (bytes ++ more)) ≡ true = le-leb n (length (bytes ++ more)) (omega (arith, length-append bytes more)) in
      rw (one, two, take-append-le n bytes more whole, drop-append-le n bytes more whole) (body may)))

  marked_more : (s : State) (m : Option Mark) (bytes : List ℕ) → 1 ≤ length bytes → (closing s.phase ≡ false → 16132 ≤ length bytes)
      → read_marked s m (bytes ++ more) ≡ extend more (read_marked s m bytes)
  marked_more s None bytes some many = unfold read_marked in refl
  marked_more s (Some Header) bytes some many =
      unfold read_body in
      known_more s Header bytes (λ may. omega (arith, many (at-start s.phase may))) (λ may. header-more (take 17 bytes) (drop 17 bytes))
  marked_more s (Some Balanced) bytes some many = unfold read_body in known_more s Balanced bytes (λ may. omega arith) (λ may. refl)
  marked_more s (Some Contour) bytes some many = unfold read_body in known_more s Contour bytes (λ may. omega arith) (λ may. refl)
  marked_more s (Some (Edge kind)) bytes some many =
      unfold read_body in
      known_more s (Edge kind) bytes (λ may. omega (arith, many (in_contour s.phase may), controls-few kind))
      (λ may. edge_more kind (take (16 * controls kind) bytes) (drop (16 * controls kind) bytes))
  marked_more s (Some Distances) bytes some many =
      unfold read_body in
      known_more s Distances bytes (λ may. omega (arith, many (due may)))
      (λ may. distances-more (take 2 bytes) (drop 2 bytes) (rw length-drop (omega (arith, many (due may)))))
    where
      due : Allowed s Distances → closing s.phase ≡ false
      due may = among-contours s.phase (and_left (among s.phase) (by_distance s.numbers.header.strategy) may)
  marked_more s (Some End) bytes some many = unfold read_body in known_more s End bytes (λ may. omega arith) (λ may. end_more bytes some)

  record_more : (s : State) (bytes : List ℕ) → 3 ≤ length bytes → (closing s.phase ≡ false → 16134 ≤ length bytes)
      → read_record s (bytes ++ more) ≡ extend more (read_record s bytes)
  unfolding read_record
  record_more s [] some many = absurd (omega arith)
  record_more s (a ∷ []) some many = absurd (omega arith)
  record_more s (a ∷ b ∷ bytes) some many = marked_more s (mark_of a b) bytes (omega arith) (λ h. omega (arith, many h))

-- ---- the records of a file that is longer

module _ (short more : List ℕ) (long : length short ≡ deciding_bytes) where
  abbrev file : List ℕ
  file = short ++ more

  -- a place that is reached lies well before the cut
  before-cut : (p : Progress) → Reached file p → (p.at ≤ 33177) × (closing p.state.phase ≡ false → p.at ≤ 17045)
  before-cut p at =
      let most = besides_most p.state.phase in
      (omega (arith, at.sized, most.0, at.contours_fit, at.edges_fit), λ h. omega (arith, at.sized, most.1 h, at.contours_fit, at.edges_fit))

  ahead_of : (p : Progress) → Reached file p → drop p.at file ≡ drop p.at short ++ more
  ahead_of p at = drop-append-le p.at short more (omega (arith, (before-cut p at).0))

  same_step : (p : Progress) → Reached file p → read_record p.state (drop p.at file) ≡ extend more (read_record p.state (drop p.at short))
  same_step p at =
      let cut = before-cut p at in
      ap (read_record p.state) (ahead_of p at)
      ∙ record_more more p.state (drop p.at short) (rw length-drop (omega (arith, cut.0))) (λ h. rw length-drop (omega (arith, cut.1 h)))

  same_here : (p : Progress) → Reached file p
      → ((r : Record) (rest : List ℕ) → read_record p.state (drop p.at short) ≡ next r rest
      → records_from (after p.state (item_of r)) (rest ++ more) ≡ records_from (after p.state (item_of r)) rest)
      → (step : Step) → read_record p.state (drop p.at short) ≡ step
      → records_from p.state (drop p.at file) ≡ records_from p.state (drop p.at short)
  same_here p at later (next r rest) e =
      records_next p.state (drop p.at file) r (rest ++ more) (same_step p at ∙ ap (extend more) e)
      ∙ ap (λ (x : Records). r then x) (later r rest e)
      ∙ sym (records_next p.state (drop p.at short) r rest e)
  same_here p at later ends e = absurd (omega (arith, end_size p.state (drop p.at short) e, length-drop p.at short, (before-cut p at).0))
  same_here p at later (fails number) e =
      records_fault p.state (drop p.at file) number (same_step p at ∙ ap (extend more) e) ∙ sym (records_fault p.state (drop p.at short) number e)

  same_records : (n : ℕ) (p : Progress) → Reached file p → deciding_bytes - p.at ≤ n
      → records_from p.state (drop p.at file) ≡ records_from p.state (drop p.at short)
  same_records zero p at h = absurd (omega (arith, (before-cut p at).0))
  same_records (suc n) p at h = same_here p at (λ r rest e. later (λ q. same_records n q) p at h r rest e) (read_record p.state (drop p.at short)) refl
    where
      later : ((q : Progress) → Reached file q → deciding_bytes - q.at ≤ n
          → records_from q.state (drop q.at file) ≡ records_from q.state (drop q.at short))
          → (p : Progress) → Reached file p → deciding_bytes - p.at ≤ suc n → (r : Record) (rest : List ℕ)
          → read_record p.state (drop p.at short) ≡ next r rest
          → records_from (after p.state (item_of r)) (rest ++ more) ≡ records_from (after p.state (item_of r)) rest
      later same p at h r rest e =
          let f : read_record p.state (drop p.at file) ≡ next r (rest ++ more) = same_step p at ∙ ap (extend more) e in
          let on = reached_next file p at r (rest ++ more) f in
          let q = advanced p (item_of r) (record_size r) in
          let kept : rest ≡ drop q.at short = (taken p.state (drop p.at short) r rest e).beyond ∙ drop-drop (record_size r) p.at short in
          let all : rest ++ more ≡ drop q.at file = (taken p.state (drop p.at file) r (rest ++ more) f).beyond
          ∙ drop-drop (record_size r) p.at file in
          rw (all, kept) (same q on (omega (arith, further file p at r (rest ++ more) f)))

pub first_bytes_decide : (file : List ℕ) → read_job (take deciding_bytes file) ≡ read_job file
unfolding read_job
first_bytes_decide file = go (leb (length file) deciding_bytes) refl
  where
    go : (b : Bool) → leb (length file) deciding_bytes ≡ b → read_job (take deciding_bytes file) ≡ read_job file
    go true h = ap read_job (take_all deciding_bytes file (leb-true _ _ h))
    go false h =
        let short = take deciding_bytes file in
        let more = drop deciding_bytes file in
        let size : length short ≡ deciding_bytes = length-take-le deciding_bytes file (omega (arith, leb-false (length file) deciding_bytes h)) in
        let whole : short ++ more ≡ file = take-append-drop deciding_bytes file in
        ap (job_from no_job) (sym (same_records short more size deciding_bytes begin (reached_begin (short ++ more)) (omega arith))) ∙ ap read_job whole

-- ---- what follows for a file's colouring, its text, its acceptance and the parts of its contours

pub first_bytes_color : (file : List ℕ) (old : Result) → color_file (take deciding_bytes file) old ≡ color_file file old
unfolding color_file
first_bytes_color file old = ap (λ (r : Reading). color_reading r old) (first_bytes_decide file)

pub first_bytes_text : (file : List ℕ) → file_text (take deciding_bytes file) ≡ file_text file
unfolding file_text
first_bytes_text file = ap reading_text (first_bytes_decide file)

pub accepted-few : (file : List ℕ) → accepted file ≡ true → length file ≤ max_file
unfolding accept_job accept_reading
accepted-few file h = go (read_job file) refl h
  where
    go : (reading : Reading) → read_job file ≡ reading → succeeds (accept_reading reading) ≡ true → length file ≤ max_file
    go (gives job) e h = bytes-few file job e
    go (refusal number) e h = let z : ◌≡◌ {A = ℕ} 0 1 = cc in absurd (omega arith)

pub first_bytes_part : (file : List ℕ) (number : ℕ) → contour_part (take deciding_bytes file) number ≡ contour_part file number
first_bytes_part file number = go (accepted file) refl
  where
    same : accepted (take deciding_bytes file) ≡ accepted file
    same = unfold accept_job in ap (λ (r : Reading). succeeds (accept_reading r)) (first_bytes_decide file)

    go : (b : Bool) → accepted file ≡ b → contour_part (take deciding_bytes file) number ≡ contour_part file number
    go true h = ap (λ (x : List ℕ). contour_part x number) (take_all deciding_bytes file (omega (arith, accepted-few file h)))
    go false h = part-refused (take deciding_bytes file) number (same ∙ h) ∙ sym (part-refused file number h)
