-- The result of a whole shape, contour by contour: its edges, and a byte for each of them.
use Rattle.std.specs.Prelude.{ℕ, ◌≤◌, ◌≡◌, Bool, List, [], ◌++◌, map, Float, length}
use Rattle.coloring.specs.Answers.{Check}
use Rattle.coloring.specs.declared.settings.Division.{Division}
use Rattle.coloring.specs.declared.settings.Settings.{Settings}
use Rattle.coloring.specs.declared.outline.Counts.{Counts}
use Rattle.coloring.specs.Limits.{max_result_edges, max_shape_splines}
use Rattle.coloring.specs.Places.{total}
use Rattle.coloring.specs.Corners.{Cornered, Found, edges_in, flags_in}
use Rattle.coloring.specs.Layout.{layout, result_edges}
use Rattle.coloring.specs.Splines.{spline_count, spline_total, paint_contours}
use Rattle.coloring.specs.Values.{spline_values, middle_value, check_marking}
use Rattle.coloring.specs.Outline.{cut, Result, Outcome, encode, deliver}

-- what is written of laid out contours, with a value for each of their splines
unfoldable pub painted : Division → ℕ → List ℕ → List Cornered → Result
unfolding encode paint_contours
painted division middle values laid = encode (edges_in laid) (paint_contours division middle values (flags_in laid))

-- of what is laid out, and the stand-ins of the outline
unfoldable pub counts_of : List Cornered → ℕ → Counts
unfolding encode spline_total
counts_of laid stand_ins =
    let written = encode (edges_in laid) [] in
    record { contours = length written.lengths; edges = length written.kinds; splines = spline_total laid; stand_ins = stand_ins }

abbrev pub deliver_values : List Check → Settings → List ℕ → List Cornered → ℕ → Result → Outcome
deliver_values checks settings values laid stand_ins old =
    deliver checks (counts_of laid stand_ins) (painted settings.division (middle_value settings.marking) values laid) old

-- The outcome of an entry, once its checks are made and its corners found: the layout, and from there on the result
-- alone. The splines are checked, each gets its value, and each edge that of its spline.
abbrev pub deliver_found : List Check → Settings → List Float → Found → Result → Outcome
deliver_found checks settings distances found old =
    let laid = map layout found.contours in
    let last = check_marking settings.marking (spline_total laid) distances in
    deliver_values (checks ++ last) settings (spline_values settings.marking distances laid) laid found.stand_ins old

-- ---- in the words of contracts

-- what contours with these flags come to
pub record Counted (lengths : List ℕ) (flags : List Bool) (counts : Counts) : Type 0 where
  pub contours_are : counts.contours ≡ length lengths
  pub edges_are : counts.edges ≡ total (map result_edges (cut lengths flags))
  pub splines_are : counts.splines ≡ total (map spline_count (cut lengths flags))
  pub edges_few : counts.edges ≤ max_result_edges
  pub splines-few : counts.splines ≤ max_shape_splines
