-- The part of a contour is the bytes of its records.
use mathlib.Core.Path.{◌≡◌, refl, sym, ap, ◌∙◌}
use mathlib.Core.Bool.{cond}
use mathlib.Core.List.{List, [], ◌∷◌, ◌++◌, map, append_assoc, flatten}
use Prim.Native.Nat.{ℕ, suc, ◌+◌, ◌-◌, ◌<◌}
use native.Mathlib.Omega.{arith}
use lib.ListN.{length, take, drop, get_or, take-append-drop}
use lib.Seq.{drop-cons, take_at, drop_at}
use borrow.Author.Tests.{lt-ltb}
use Rattle.geometry.specs.declared.edge_segment.EdgeSegment.{EdgeSegment}
use Rattle.coloring.specs.Answers.{gives, succeeds}
use Rattle.job.specs.declared.records.Mark.TheVariants.{End}
use Rattle.job.specs.Records.{Record, distances, by_distance, marked}
use Rattle.job.specs.Job.{Job, read_job, contour_records, outline_records, records_of, record_bytes, file_of}
use Rattle.job.specs.Color.{accept_job}
use Rattle.job.specs.Part.{span_in, contour_part}
use Rattle.job.proofs.patterns.PatternLaws.{AreBytes}
use Rattle.job.proofs.progress.SoFarLaws.{outlined, bytes-append, outline-more}
use Rattle.job.proofs.progress.ProgressLaws.{file_of_job}
use Rattle.job.proofs.color.AcceptLaws.{accepted_same}

concat_both : (xs ys : List (List EdgeSegment)) → flatten (map contour_records (xs ++ ys)) ≡ flatten (map contour_records xs) ++ flatten
    (map contour_records ys)
unfolding flatten
concat_both [] ys = refl
concat_both (x ∷ xs) ys = rw (concat_both xs ys) (sym (append_assoc (contour_records x) (flatten (map contour_records xs)) (flatten (map contour_records ys))))

-- a contour's records, between those before it and those after it
record Between (job : Job) (number : ℕ) : Type 0 where
  later : List Record
  split : records_of job ≡ outline_records job.header job.division (take number job.contours)
      ++ (contour_records (get_or job.contours number []) ++ later)

between : (job : Job) (number : ℕ) → number < length job.contours → Between job number
unfolding records_of
between job number h = record { later = rest ++ end; split = all }
  where
    before : List Record
    before = outline_records job.header job.division (take number job.contours)

    own : List Record
    own = contour_records (get_or job.contours number [])

    rest : List Record
    rest = flatten (map contour_records (drop (suc number) job.contours))

    end : List Record
    end = cond (by_distance job.header.strategy) (distances job.distances ∷ []) []

    contours_are : take number job.contours ++ (get_or job.contours number [] ∷ drop (suc number) job.contours) ≡ job.contours
    contours_are = ap (λ (x : List (List EdgeSegment)). take number job.contours ++ x) (sym (drop-cons job.contours number [] h))
        ∙ take-append-drop number job.contours

    outline : outlined job ≡ before ++ (own ++ rest)
    outline = outline-more job.header job.division (take number job.contours) job.contours (own ++ rest)
        (ap (λ (x : List (List EdgeSegment)). flatten (map contour_records x)) (sym contours_are)
        ∙ unfold flatten in concat_both (take number job.contours) (get_or job.contours number [] ∷ drop (suc number) job.contours))

    all : outlined job ++ end ≡ before ++ (own ++ (rest ++ end))
    all = ap (λ (x : List Record). x ++ end) outline ∙ append_assoc before (own ++ rest) end
        ∙ ap (λ (x : List Record). before ++ x) (append_assoc own rest end)

-- the bytes of a file, cut at a contour
cut_at : (job : Job) (number : ℕ) (h : number < length job.contours)
    → file_of job ≡ record_bytes (outline_records job.header job.division (take number job.contours))
    ++ (record_bytes (contour_records (get_or job.contours number [])) ++ (record_bytes (between job number h).later ++ marked End []))
unfolding file_of
cut_at job number h =
    let b = between job number h in
    let before = outline_records job.header job.division (take number job.contours) in
    let own = contour_records (get_or job.contours number []) in
    ap (λ (x : List Record). record_bytes x ++ marked End []) b.split
    ∙ ap (λ (x : List ℕ). x ++ marked End []) (bytes-append before (own ++ b.later)
    ∙ ap (λ (x : List ℕ). record_bytes before ++ x) (bytes-append own b.later))
    ∙ append_assoc (record_bytes before) (record_bytes own ++ record_bytes b.later) (marked End [])
    ∙ ap (λ (x : List ℕ). record_bytes before ++ x) (append_assoc (record_bytes own) (record_bytes b.later) (marked End []))

part_cut : (a b c : List ℕ) → take (length a + length b - length a) (drop (length a) (a ++ (b ++ c))) ≡ b
part_cut a b c = let e : length a + length b - length a ≡ length b = omega arith in rw (drop_at a (b ++ c) (length a) refl, e) (take_at b c (length b) refl)

pub part_is : (file : List ℕ) (job : Job) (number : ℕ) → AreBytes file → accept_job file ≡ gives job → number < length job.contours
    → contour_part file number ≡ record_bytes (contour_records (get_or job.contours number []))
unfolding contour_part span_in
part_is file job number are e h =
    let is_read : read_job file ≡ gives job = accepted_same file (ap succeeds e) ∙ e in
    let all = file_of_job file job are is_read ∙ cut_at job number h in
    let before = record_bytes (outline_records job.header job.division (take number job.contours)) in
    let own = record_bytes (contour_records (get_or job.contours number [])) in
    rw (e, lt-ltb number (length job.contours) h)
    (ap (λ (x : List ℕ). take (length before + length own - length before) (drop (length before) x)) all ∙ part_cut before own _)
