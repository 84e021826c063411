-- What an entry does with its buffers: a checked outline's agree, and the count decides whether the result fits.
use mathlib.Core.Path.{◌≡◌, refl, sym, ap, ◌∙◌}
use mathlib.Core.Bool.{Bool, ◌&&◌}
use mathlib.Core.List.{List, [], ◌∷◌, ◌++◌, map}
use Prim.Native.Nat.{ℕ, suc, ◌*◌}
use lib.Dec.{leb, eqb}
use lib.ListN.{length, take, drop, length-take, length-drop}
use borrow.Author.Tests.{leb-true, eqb-true}
use Rattle.geometry.specs.declared.edge_segment.EdgeSegment.{EdgeSegment}
use Rattle.coloring.specs.Answers.{Check, all_pass, first_refusal, passed_both}
use Rattle.coloring.specs.Bools.{and_left, and_right}
use Rattle.coloring.specs.declared.outline.Counts.{Counts}
use Rattle.coloring.specs.declared.settings.Division.{Division}
use Rattle.coloring.specs.declared.settings.Division.TheVariants.{Source}
use Rattle.coloring.specs.Places.{total}
use Rattle.coloring.specs.Corners.{Cornered, flags_in, cornered}
use Rattle.coloring.specs.Layout.{layout, result_edges}
use Rattle.coloring.specs.Outline.{Outline, Result, cut, encode, check_outline, has_room, result_fits, Agrees}
use Rattle.coloring.specs.Splines.{spline_count, spline_total}
use Rattle.coloring.specs.Shape.{painted, counts_of, Counted}
use Rattle.coloring.specs.Sizes.{Flagged, Sized, painted-sized}
use Rattle.coloring.proofs.layout.SplitLaws.{total-laid}

-- ---- an outline that passed

pub passed_agrees : (o : Outline) (more : List Check) → first_refusal (check_outline o ++ more) ≡ all_pass → Agrees o
unfolding check_outline
passed_agrees o more e =
    let few = passed_both 4 (leb (length o.lengths) 64 && leb (total o.lengths) 256) _ e in
    let same = passed_both 8 (eqb (length o.kinds) (total o.lengths) && eqb (length o.points) (8 * total o.lengths)) _ few.1 in
    let edges = eqb-true (length o.kinds) (total o.lengths) (and_left _ _ same.0) in
    record {
      contours-few = leb-true (length o.lengths) 64 (and_left _ _ few.0);
      edges = edges;
      few = rw edges (leb-true (total o.lengths) 256 (and_right (leb (length o.lengths) 64) _ few.0));
      places = rw edges (eqb-true (length o.points) (8 * total o.lengths) (and_right (eqb (length o.kinds) (total o.lengths)) _ same.0));
    }

-- ---- contours with their corners

pub cut-flagged : (lengths : List ℕ) (xs : List EdgeSegment) (flags : List Bool) → length flags ≡ length xs → Flagged (cornered lengths xs flags)
unfolding cornered Flagged
cut-flagged [] xs flags l = tt
cut-flagged (n ∷ lengths) xs flags l =
    (length-take n flags ∙ rw l (sym (length-take n xs)), cut-flagged lengths (drop n xs) (drop n flags) (length-drop n flags ∙ rw l (sym (length-drop n xs))))

pub flags-cut : (lengths : List ℕ) (xs : List EdgeSegment) (flags : List Bool) → flags_in (cornered lengths xs flags) ≡ cut lengths flags
unfolding cornered cut
flags-cut [] xs flags = refl
flags-cut (n ∷ lengths) xs flags = ap (λ l. take n flags ∷ l) (flags-cut lengths (drop n xs) (drop n flags))

pub splines-cut : (lengths : List ℕ) (xs : List EdgeSegment) (flags : List Bool)
    → spline_total (cornered lengths xs flags) ≡ total (map spline_count (cut lengths flags))
unfolding spline_total
splines-cut lengths xs flags = ap (λ contours. total (map spline_count contours)) (flags-cut lengths xs flags)

pub cornered-length : (lengths : List ℕ) (xs : List EdgeSegment) (flags : List Bool) → length (cornered lengths xs flags) ≡ length lengths
unfolding cornered
cornered-length [] xs flags = refl
cornered-length (n ∷ lengths) xs flags = ap suc (cornered-length lengths (drop n xs) (drop n flags))

-- ---- the count decides

pub sized_fits : {written : Result} {contours edges : ℕ} (old : Result) → Sized written contours edges → result_fits written old ≡ has_room contours edges old
unfolding result_fits
sized_fits old s = rw (s.lengths_long, s.kinds_long, s.points_long, s.colors_long)

-- ---- the result of contours that were counted

-- the contours of the result
abbrev pub laid_out : List ℕ → List EdgeSegment → List Bool → List Cornered
laid_out lengths xs flags = map layout (cornered lengths xs flags)

module _ (lengths : List ℕ) (xs : List EdgeSegment) (flags : List Bool) (counts : Counts)
    (same : length flags ≡ length xs) (counted : Counted lengths flags counts) where
  abbrev found : List Cornered
  found = cornered lengths xs flags

  abbrev laid : List Cornered
  laid = laid_out lengths xs flags

  pub found-flagged : Flagged found
  found-flagged = cut-flagged lengths xs flags same

  edges-counted : total (map result_edges (flags_in found)) ≡ counts.edges
  edges-counted = ap (λ contours. total (map result_edges contours)) (flags-cut lengths xs flags) ∙ sym counted.edges_are

  pub splines-counted : spline_total laid ≡ counts.splines
  splines-counted = total-laid found found-flagged ∙ splines-cut lengths xs flags ∙ sym counted.splines_are

  pub counted-sized : (division : Division) (middle : ℕ) (values : List ℕ) → Sized (painted division middle values laid) counts.contours counts.edges
  counted-sized division middle values =
      rw (cornered-length lengths xs flags, edges-counted, ← counted.contours_are) at (painted-sized found found-flagged division middle values)

  pub counts-laid : counts ≡ counts_of laid counts.stand_ins
  unfolding counts_of painted encode
  counts-laid =
      let s = counted-sized Source 0 [] in
      rw (s.lengths_long, s.kinds_long, splines-counted)
