-- What a colouring counts at most, whatever is asked of it: so each count has at most 16 bits.
use mathlib.Core.Path.{◌≡◌, ap, subst, ◌∙◌}
use mathlib.Core.List.{List, [], ◌∷◌, ◌++◌, map, flatten}
use Prim.Native.Nat.{ℕ, ◌≤◌}
use native.Mathlib.Omega.{arith}
use lib.Dec.{leb}
use lib.Ieee.{Float}
use lib.ListN.{length, length-map}
use Rattle.coloring.specs.declared.settings.Settings.{Settings}
use Rattle.coloring.specs.declared.outline.Counts.{Counts}
use Rattle.coloring.specs.Limits.{max_contours, max_edges, max_result_edges, max_shape_splines, max_stand_ins, max_distances}
use Rattle.coloring.specs.Answers.{gives, refusal, Check, unless, all_pass, first_refusal, passed_first, passed_both, either_way}
use Rattle.coloring.specs.Places.{total}
use Rattle.coloring.specs.Corners.{Cornered, Found, find_corners, edges_in, flags_in, few_in_all}
use Rattle.coloring.specs.Layout.{layout}
use Rattle.coloring.specs.Splines.{spline_total}
use Rattle.coloring.specs.Values.{spline_values, middle_value, check_marking}
use Rattle.coloring.specs.Outline.{Outline, Result, Outcome, outcome, kind_stored, contours, check, result_fits, delivered, deliver, Agrees}
use Rattle.coloring.specs.Shape.{painted, counts_of}
use Rattle.coloring.specs.EdgeColoring.{edge_coloring}
use Rattle.coloring.specs.Sizes.{sizes, flatten-length, search_flagged, laid-sizes, found-sizes, edges_most}
use Rattle.coloring.proofs.outline.EdgeLaws.{edges-length}
use Rattle.coloring.proofs.outline.CutLaws.{cut-sizes}
use Rattle.coloring.proofs.layout.SplitLaws.{total-laid}
use Rattle.coloring.proofs.splines.PaintLaws.{splines_most}
use Rattle.coloring.proofs.shape.DeliverLaws.{passed_agrees}

same_value : {A : Type 0} {a b : A} → gives a ≡ gives b → a ≡ b
same_value e = cc

no_value : {A B : Type 0} {number : ℕ} {a : A} → refusal number ≡ gives a → B
no_value e = let no : ◌≡◌ {A = ℕ} 0 1 = cc in absurd (omega arith)

pub record Bounded (counts : Counts) : Type 0 where
  pub edges_few : counts.edges ≤ max_result_edges
  pub splines-few : counts.splines ≤ max_shape_splines
  pub stand_ins_few : counts.stand_ins ≤ max_stand_ins

module _ (settings : Settings) (o : Outline) where
  abbrev found : Found
  found = find_corners settings.threshold (contours o)

  abbrev laid : List Cornered
  laid = map layout found.contours

  -- of an outline that passed
  module _ (agrees : Agrees o) where
    contour-sizes : sizes (contours o) ≡ o.lengths
    unfolding contours
    contour-sizes = cut-sizes o.lengths _ (omega (arith, agrees.edges, edges-length o.kinds o.points))

    flag-sizes : sizes (flags_in found.contours) ≡ o.lengths
    flag-sizes = found-sizes settings.threshold (contours o) ∙ contour-sizes

    contours-few : length (flags_in found.contours) ≤ max_contours
    contours-few = omega (arith, length-map (flags_in found.contours) length, ap length flag-sizes, agrees.contours-few)

    edges_in_lem : total (sizes (flags_in found.contours)) ≤ max_edges
    edges_in_lem = rw flag-sizes (omega (arith, agrees.edges, agrees.few))

    bounded : Bounded (counts_of laid found.stand_ins)
    unfolding counts_of spline_total
    bounded =
        let flagged = search_flagged settings.threshold (contours o) in
        let flags = flags_in found.contours in
        record {
          edges_few =
              omega (
                arith,
                length-map (flatten (edges_in laid)) kind_stored,
                flatten-length (edges_in laid),
                ap total (laid-sizes found.contours flagged),
                edges_most flags contours-few edges_in_lem,
              );
          splines-few = omega (arith, total-laid found.contours flagged, splines_most flags, contours-few, edges_in_lem);
          stand_ins_few =
              omega (arith, few_in_all settings.threshold (contours o), flatten-length (contours o), ap total contour-sizes, agrees.edges, agrees.few);
        }

  -- and so of every answer that is no refusal
  module _ (distances : List Float) (old : Result) (counts : Counts) where
    abbrev checks : List Check
    checks = (unless 4 (leb (length distances) max_distances) ∷ check o settings.threshold) ++ check_marking settings.marking (spline_total laid) distances

    abbrev written : Result
    written = painted settings.division (middle_value settings.marking) (spline_values settings.marking distances laid) laid

    passed : first_refusal (checks ++ (unless 11 (result_fits written old) ∷ [])) ≡ all_pass → Agrees o
    unfolding check
    passed e =
        let first = passed_first checks _ e in
        let rest = (passed_both 4 (leb (length distances) max_distances) _ first).1 in
        passed_agrees o _ (passed_first (check o settings.threshold) _ rest)

    pub answers_bounded : (edge_coloring settings o distances old).answer ≡ gives counts → Bounded counts
    unfolding edge_coloring deliver delivered
    answers_bounded e =
        either_way (checks ++ (unless 11 (result_fits written old) ∷ [])) (λ number. outcome (refusal number) old)
        (delivered (counts_of laid found.stand_ins) written old)
        (λ (end : Outcome). end.answer ≡ gives counts → Bounded counts)
        (λ all told. subst Bounded (same_value told) (bounded (passed all)))
        (λ number failed told. no_value told)
        e
