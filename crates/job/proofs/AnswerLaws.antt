-- What reading and colouring a file give where every result has room: the answer, and the text.
use mathlib.Core.Path.{◌≡◌, refl, sym, ap, ◌∙◌}
use mathlib.Core.Bool.{true}
use mathlib.Core.List.{List, [], map, flatten}
use Prim.Native.Nat.{ℕ, ◌≤◌, ◌<◌}
use native.Mathlib.Omega.{arith}
use lib.ListN.{length, take, length-map}
use borrow.Author.Tests.{le-leb}
use Rattle.geometry.specs.declared.edge_segment.EdgeSegment.{EdgeSegment}
use Rattle.coloring.specs.Lists.{over}
use Rattle.coloring.specs.declared.outline.Counts.{Counts}
use Rattle.coloring.specs.Places.{total}
use Rattle.coloring.specs.Sizes.{Sized, sizes, sizes-map, cut_again, flatten-length}
use Rattle.coloring.specs.Outline.{kind_stored, cut, encode, Result, Outcome, outcome, result_fits, delivered, deliver}
use Rattle.coloring.specs.Shape.{counts_of}
use Rattle.coloring.specs.Answers.{Answer, gives, refusal, all_pass, in_order, first_refusal, all-passed, one_failed, either_way}
use Rattle.coloring.specs.Fill.{fill_outcome, fill-short, fill_fits}
use Rattle.coloring.specs.DeliverLaws.{deliver_fits, deliver-passed, deliver_failed, deliver-answer}
use Rattle.job.specs.Limits.{max_text}
use Rattle.job.specs.Job.{Job, Reading, read_job}
use Rattle.job.specs.Color.{corners_in, job_counts, check_job, colored_edges, edge_colors, colored, color_job}
use Rattle.job.specs.Color.{color_reading, color_file, check_reading, check_file, HoldsResults}
use Rattle.job.specs.Listing.{listing, refusal_line, job_text, reading_text, file_text, list_file}
pub use Rattle.job.proofs.buffers.BufferLaws.{take-over}
use Rattle.job.proofs.buffers.BufferLaws.{within-over}
use Rattle.job.proofs.listing.ListingLaws.{listing-few, refusal-few}
use Rattle.job.proofs.color.ColorLaws.{map-flatten, numbered}
use Rattle.job.proofs.color.ShapeLaws.{ShapeOf, shape_of}

-- ---- the text is at most 5,611 bytes long

refusal-short : (number : ℕ) → length (refusal_line number) ≤ max_text
refusal-short number = omega (arith, refusal-few number)

pub text_few : (file : List ℕ) → length (file_text file) ≤ max_text
unfolding file_text reading_text
text_few file = go (read_job file) refl
  where
    go : (reading : Reading) → read_job file ≡ reading → length (reading_text reading) ≤ max_text
    go (gives job) e =
        let s = shape_of job file e in
        either_way (check_job job) refusal_line (job_text job) (λ (text : List ℕ). length text ≤ max_text)
        (λ passed. listing-few (map (map kind_stored) (colored_edges job)) (edge_colors job) (corners_in job).stand_ins
        (omega (arith, length-map (colored_edges job) (map kind_stored), s.contours_fit))
        (omega (arith, ap length (map-flatten kind_stored (colored_edges job)), length-map (flatten (colored_edges job)) kind_stored, s.edges_fit))
        s.stand_ins_fit s.are_colors)
        (λ number failed. refusal-short number)
    go (refusal number) e = refusal-short number

-- ---- the answer

-- a coloured shape that stands at the front of the buffers, with so many contours and edges, can be listed from there
pub record Front (file : List ℕ) (contours edges stand_ins : ℕ) (new : Result) : Type 0 where
  pub lengths-within : contours ≤ length new.lengths
  pub kinds-within : edges ≤ length new.kinds
  pub colors-within : edges ≤ length new.colors
  pub listable : (length (take contours new.lengths) < 1000) × (stand_ins < 1000)
      × (total (take contours new.lengths) ≡ length (take edges new.kinds))
  pub few : length (take edges new.kinds) < 1000
  pub colored : length (take edges new.colors) ≡ length (take edges new.kinds)
  pub text : file_text file
      ≡ listing (cut (take contours new.lengths) (take edges new.kinds)) (cut (take contours new.lengths) (take edges new.colors)) stand_ins

-- what is stored of a shape is cut into its contours again
stored_listing : (edges : List (List EdgeSegment)) (colors : List (List ℕ)) (stand_ins : ℕ) → sizes colors ≡ sizes edges
    → listing (map (map kind_stored) edges) colors stand_ins
    ≡ listing (cut (sizes edges) (map kind_stored (flatten edges))) (cut (sizes edges) (flatten colors)) stand_ins
stored_listing edges colors stand_ins e =
    let kinds : cut (sizes edges) (map kind_stored (flatten edges)) ≡ map (map kind_stored) edges =
    rw (map-flatten kind_stored edges, ← sizes-map kind_stored edges) (cut_again (map (map kind_stored) edges)) in
    let bytes : cut (sizes edges) (flatten colors) ≡ colors = rw (← e) (cut_again colors) in
    rw (kinds, bytes)

front_of : (file : List ℕ) (contours edges stand_ins : ℕ) (job : Job) (old new : Result)
    → ShapeOf job → contours ≡ length (colored_edges job) → edges ≡ length (flatten (colored_edges job)) → stand_ins ≡ (corners_in job).stand_ins
    → new.lengths ≡ over (colored job).lengths old.lengths → new.kinds ≡ over (colored job).kinds old.kinds
    → new.colors ≡ over (colored job).colors old.colors
    → file_text file ≡ job_text job → Front file contours edges stand_ins new
unfolding colored encode
front_of file contours edges stand_ins job old new s c e st l k m text =
    let shape = colored job in
    let kinds : edges ≡ length shape.kinds = e ∙ sym s.sized.kinds_long in
    let colors : edges ≡ length shape.colors = e ∙ sym s.sized.colors_long in
    let lengths : contours ≡ length shape.lengths = c ∙ sym s.sized.lengths_long in
    let l-is = take-over shape.lengths old.lengths l lengths in
    let k-is = take-over shape.kinds old.kinds k kinds in
    let m-is = take-over shape.colors old.colors m colors in
    let sum : total shape.lengths ≡ length shape.kinds = sym (flatten-length (colored_edges job)) ∙ sym s.sized.kinds_long in
    record {
      lengths-within = within-over shape.lengths old.lengths l lengths;
      kinds-within = within-over shape.kinds old.kinds k kinds;
      colors-within = within-over shape.colors old.colors m colors;
      listable = rw (l-is, k-is) (
        omega (arith, s.sized.lengths_long, s.contours_fit),
        omega (arith, st, s.stand_ins_fit),
        sum,
      );
      few = rw k-is (omega (arith, s.sized.kinds_long, s.edges_fit));
      colored = rw (k-is, m-is) (s.sized.colors_long ∙ sym s.sized.kinds_long);
      text = rw (l-is, k-is, m-is, st) (text ∙ stored_listing (colored_edges job) (edge_colors job) (corners_in job).stand_ins s.marked);
    }

module _ (file : List ℕ) (old : Result) (room : HoldsResults old) where
  fits_sized : (job : Job) (shape : Result) → read_job file ≡ gives job
      → Sized shape (length (colored_edges job)) (length (flatten (colored_edges job))) → result_fits shape old ≡ true
  unfolding result_fits
  fits_sized job shape e long =
      let s = shape_of job file e in
      rw (
        le-leb (length shape.lengths) (length old.lengths) (omega (arith, long.lengths_long, s.contours_fit, room.lengths_fit)),
        le-leb (length shape.kinds) (length old.kinds) (omega (arith, long.kinds_long, s.edges_fit, room.kinds_fit)),
        le-leb (length shape.points) (length old.points) (omega (arith, long.points_long, s.edges_fit, room.points_fit)),
        le-leb (length shape.colors) (length old.colors) (omega (arith, long.colors_long, s.edges_fit, room.colors_fit)),
      )

  fits_all : (job : Job) → read_job file ≡ gives job → result_fits (colored job) old ≡ true
  fits_all job e = fits_sized job (colored job) e (shape_of job file e).sized

  pub fits_numbered : (job : Job) → read_job file ≡ gives job → result_fits (numbered job) old ≡ true
  fits_numbered job e = fits_sized job _ e (shape_of job file e).numbers-sized

  pub color-answer : (color_file file old).answer ≡ check_file file
  unfolding color_file color_reading color_job check_file check_reading
  color-answer = go (read_job file) refl
    where
      go : (reading : Reading) → read_job file ≡ reading → (color_reading reading old).answer ≡ check_reading reading
      go (gives job) e = deliver-answer (job_counts job) (colored job) old (check_job job) (fits_all job e)
      go (refusal number) e = refl

  -- where the checks pass, the coloured shape is written
  all-written : (job : Job) → read_job file ≡ gives job → first_refusal (check_job job) ≡ all_pass
      → deliver (check_job job) (job_counts job) (colored job) old ≡ delivered (job_counts job) (colored job) old
  all-written job e passed =
      deliver-passed (job_counts job) (colored job) old (check_job job) passed ∙ deliver_fits (job_counts job) (colored job) old (fits_all job e)

  answer_in : {a b : Outcome} → a ≡ b → a.answer ≡ b.answer
  answer_in e = ap (λ (o : Outcome). o.answer) e

  pub front : (counts : Counts) (new : Result) → outcome (gives counts) new ≡ color_file file old
      → Front file counts.contours counts.edges counts.stand_ins new
  unfolding color_file color_reading color_job delivered counts_of file_text reading_text
  front counts new same = go (read_job file) refl same
    where
      go : (reading : Reading) → read_job file ≡ reading → outcome (gives counts) new ≡ color_reading reading old
          → Front file counts.contours counts.edges counts.stand_ins new
      go (gives job) e same = of (first_refusal (check_job job)) refl
        where
          of : (k : Answer Unit) → first_refusal (check_job job) ≡ k → Front file counts.contours counts.edges counts.stand_ins new
          of (gives u) passed =
              let s = shape_of job file e in
              let written = all-written job e passed in
              let given = same ∙ written in
              let answer = answer_in given in
              let contours : counts.contours ≡ length (colored job).lengths = cc in
              let edges : counts.edges ≡ length (colored job).kinds = cc in
              let stand_ins : counts.stand_ins ≡ (corners_in job).stand_ins = cc in
              front_of file counts.contours counts.edges counts.stand_ins job old new s (contours ∙ s.sized.lengths_long)
              (edges ∙ s.sized.kinds_long) stand_ins
              (ap (λ (o : Outcome). o.buffers.lengths) given) (ap (λ (o : Outcome). o.buffers.kinds) given)
              (ap (λ (o : Outcome). o.buffers.colors) given) (rw e (all-passed (check_job job) refusal_line (job_text job) passed))
          of (refusal number) failed =
              let no = answer_in (same ∙ sym (deliver_failed (job_counts job) (colored job) old (check_job job) failed)) in
              let z : ◌≡◌ {A = ℕ} 0 1 = cc in absurd (omega arith)
      go (refusal number) e same = let no = answer_in same in let z : ◌≡◌ {A = ℕ} 0 1 = cc in absurd (omega arith)

  pub refused_text : (number : ℕ) (new : Result) → outcome (refusal number) new ≡ color_file file old → file_text file ≡ refusal_line number
  unfolding color_file color_reading color_job delivered file_text reading_text
  refused_text number new same = go (read_job file) refl same
    where
      go : (reading : Reading) → read_job file ≡ reading → outcome (refusal number) new ≡ color_reading reading old → reading_text reading ≡ refusal_line number
      go (gives job) e same = of (first_refusal (check_job job)) refl
        where
          of : (k : Answer Unit) → first_refusal (check_job job) ≡ k → in_order (check_job job) refusal_line (job_text job) ≡ refusal_line number
          of (gives u) passed =
              let written = all-written job e passed in
              let no = answer_in (same ∙ written) in cc
          of (refusal other) failed =
              let told = answer_in (same ∙ sym (deliver_failed (job_counts job) (colored job) old (check_job job) failed)) in
              let is : other ≡ number = cc in
              one_failed (check_job job) refusal_line (job_text job) failed ∙ ap refusal_line is
      go (refusal other) e same = let told = answer_in same in let is : other ≡ number = cc in ap refusal_line is

-- ---- the listing: 11 where the text does not fit, else the text over what stood there

no_checks : first_refusal [] ≡ all_pass
unfolding first_refusal
no_checks = refl

module _ (file old : List ℕ) (n : ℕ) (e : n ≡ length (file_text file)) where
  pub list_short : length old < n → fill_outcome (refusal 11) old ≡ list_file file old
  unfolding list_file
  list_short h = fill-short [] (length (file_text file)) (file_text file) old no_checks (omega (arith, e))

  pub list_fits : (new : List ℕ) → n ≤ length old → new ≡ over (file_text file) old → fill_outcome (gives n) new ≡ list_file file old
  unfolding list_file
  list_fits new h same = rw (e, same) (fill_fits [] (length (file_text file)) (file_text file) old no_checks (omega (arith, e)))
