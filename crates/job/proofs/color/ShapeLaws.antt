-- The coloured shape of a job: as many colours as edges, at most 64 contours and 508 edges, and each colour below 8.
use mathlib.Core.Path.{◌≡◌, refl, sym, ap, ◌∙◌}
use mathlib.Core.List.{List, [], ◌∷◌, map, map-map, flatten}
use Prim.Native.Nat.{ℕ, zero, suc, ◌≤◌}
use native.Mathlib.Omega.{arith}
use lib.Ieee.{Float}
use lib.ListN.{length, length-map}
use Rattle.geometry.specs.EdgeColor.{bits_of, bits_below}
use Rattle.geometry.specs.declared.edge_color.EdgeColor.{EdgeColor}
use Rattle.geometry.specs.declared.edge_color.EdgeColor.TheVariants.{White}
use Rattle.geometry.specs.declared.edge_segment.EdgeSegment.{EdgeSegment}
use Rattle.coloring.specs.SplineColors.{color_splines}
use Rattle.coloring.specs.declared.settings.Strategy.{Strategy}
use Rattle.coloring.specs.declared.settings.Strategy.TheVariants.{Simple, InkTrap}
use Rattle.coloring.specs.declared.settings.Division.TheVariants.{Source}
use Rattle.coloring.specs.declared.settings.Marking.{Marking}
use Rattle.coloring.specs.declared.settings.Marking.TheVariants.{Colors, Numbers, Distances}
use Rattle.coloring.specs.Places.{total}
use Rattle.coloring.specs.Switching.{init_color}
use Rattle.coloring.specs.Corners.{Cornered, find_corners, edges_in, flags_in, few_in_all}
use Rattle.coloring.specs.Layout.{layout}
use Rattle.coloring.specs.Splines.{spline_total, paint_contours}
use Rattle.coloring.specs.Values.{shape_colors, spline_color, spline_values, middle_value}
use Rattle.coloring.specs.Sizes.{sizes, flatten-length, found-sizes, Flagged, search_flagged, laid-sizes, edges_most, Sized, encoded_sized, painted-sizes}
use Rattle.coloring.specs.PaintLaws.{contours-map}
use Rattle.coloring.specs.Shape.{painted}
use Rattle.coloring.specs.Limits.{max_contours, max_result_edges, max_stand_ins}
use Rattle.coloring.specs.Answers.{gives}
use Rattle.job.specs.declared.records.Strategy as strategies
use Rattle.job.specs.declared.records.Strategy.TheVariants as by
use Rattle.job.specs.Job.{threshold_of, Job, read_job}
use Rattle.job.specs.Progress.{edge_count}
use Rattle.job.specs.Color.{marking_by, corners_in, laid_in, colored_edges, edge_colors, colored}
use Rattle.job.proofs.progress.ProgressLaws.{contours-few, edges_few}
use Rattle.job.proofs.color.ColorLaws.{numbered}
use Rattle.job.proofs.listing.ListingLaws.{AreColors, EachColors}

-- ---- edges in

found-length : (threshold : Float) (contours : List (List EdgeSegment)) → length (find_corners threshold contours).contours ≡ length contours
unfolding find_corners
found-length threshold [] = refl
found-length threshold (c ∷ contours) = ap suc (found-length threshold contours)

-- ---- colours

colors-map : {A : Type 0} (color : A → EdgeColor) (xs : List A) → AreColors (map (λ (x : A). bits_of (color x)) xs)
colors-map color [] i = omega arith
colors-map color (x ∷ xs) zero = bits_below (color x)
colors-map color (x ∷ xs) (suc i) = colors-map color xs i

colors_each : {A : Type 0} (color : A → EdgeColor) (xss : List (List A)) → EachColors (map (map (λ (x : A). bits_of (color x))) xss)
colors_each color [] i = λ (j : ℕ). omega arith
colors_each color (xs ∷ xss) zero = colors-map color xs
colors_each color (xs ∷ xss) (suc i) = colors_each color xss i

-- ---- the coloured shape of a job that was read

pub record ShapeOf (job : Job) : Type 0 where
  pub contours_fit : length (colored_edges job) ≤ max_contours
  pub edges_fit : length (flatten (colored_edges job)) ≤ max_result_edges
  pub stand_ins_fit : (corners_in job).stand_ins ≤ max_stand_ins
  pub marked : sizes (edge_colors job) ≡ sizes (colored_edges job)
  pub are_colors : EachColors (edge_colors job)
  pub sized : Sized (colored job) (length (colored_edges job)) (length (flatten (colored_edges job)))
  pub numbers-sized : Sized (numbered job) (length (colored_edges job)) (length (flatten (colored_edges job)))

module _ (job : Job) where
  abbrev found : List Cornered
  found = (corners_in job).contours

  found-flagged : Flagged found
  found-flagged = search_flagged (threshold_of job.header) job.contours

  -- the bytes of its edges by a marking
  abbrev bytes_by : Marking → List (List ℕ)
  bytes_by marking = paint_contours job.division (middle_value marking) (spline_values marking job.distances (laid_in job)) (flags_in (laid_in job))

  -- what the splines get are colours, and the middle run of a teardrop gets one
  painted-colors : (marking : Marking) (colors : List EdgeColor) → middle_value marking ≡ bits_of White
      → spline_values marking job.distances (laid_in job) ≡ map bits_of colors → EachColors (bytes_by marking)
  painted-colors marking colors middle values =
      rw (middle, values, ← contours-map bits_of job.division White colors (flags_in (laid_in job)))
      (colors_each (λ (c : EdgeColor). c) (paint_contours job.division White colors (flags_in (laid_in job))))

  colors_by_lem : (strategy : Strategy) → EachColors (bytes_by (Colors strategy job.header.seed))
  unfolding spline_values
  colors_by_lem strategy = painted-colors (Colors strategy job.header.seed) (shape_colors strategy (init_color job.header.seed) (laid_in job)) refl refl

  colors_by_distance : EachColors (bytes_by (Distances job.header.seed))
  unfolding spline_values
  colors_by_distance =
      let coloring = color_splines (spline_total (laid_in job)) job.distances job.header.seed in
      painted-colors (Distances job.header.seed) (map spline_color coloring) refl (sym (map-map bits_of spline_color coloring))

  are_colors_all : EachColors (edge_colors job)
  unfolding edge_colors
  are_colors_all = go job.header.strategy
    where
      go : (by : strategies.Strategy) → EachColors (bytes_by (marking_by by job.header.seed))
      go by.Simple = colors_by_lem Simple
      go by.InkTrap = colors_by_lem InkTrap
      go by.ByDistance = colors_by_distance

  -- a byte for each edge
  bytes_each : sizes (edge_colors job) ≡ sizes (colored_edges job)
  unfolding edge_colors colored_edges laid_in
  bytes_each = painted-sizes found found-flagged _ _ _

  -- and a number
  abbrev edge_numbers : List (List ℕ)
  edge_numbers = paint_contours Source (middle_value Numbers) (spline_values Numbers [] (laid_in job)) (flags_in (laid_in job))

  numbers_each : sizes edge_numbers ≡ sizes (colored_edges job)
  unfolding colored_edges laid_in
  numbers_each = painted-sizes found found-flagged _ _ _

  contours-kept : length (colored_edges job) ≡ length job.contours
  unfolding colored_edges laid_in
  contours-kept = length-map (map layout found) _ ∙ length-map found layout ∙ found-length (threshold_of job.header) job.contours

  module _ (file : List ℕ) (e : read_job file ≡ gives job) where
    out-few : length (flatten (colored_edges job)) ≤ max_result_edges
    unfolding colored_edges laid_in
    out-few =
        let edges : total (sizes (flags_in found)) ≡ edge_count job.contours =
        ap total (found-sizes (threshold_of job.header) job.contours) ∙ sym (flatten-length job.contours) in
        let contours : length (flags_in found) ≡ length job.contours =
        length-map found _ ∙ found-length (threshold_of job.header) job.contours in
        let most = edges_most (flags_in found) (omega (arith, contours, contours-few file job e)) (omega (arith, edges, edges_few file job e)) in
        omega (arith, flatten-length (edges_in (map layout found)), ap total (laid-sizes found found-flagged), most)

    pub shape_of : ShapeOf job
    unfolding colored painted colored_edges
    shape_of = record {
      contours_fit = omega (arith, contours-kept, contours-few file job e);
      edges_fit = out-few;
      stand_ins_fit = omega (arith, few_in_all (threshold_of job.header) job.contours, edges_few file job e);
      marked = bytes_each;
      are_colors = are_colors_all;
      sized = encoded_sized (colored_edges job) (edge_colors job) bytes_each;
      numbers-sized = encoded_sized (colored_edges job) edge_numbers numbers_each;
    }
