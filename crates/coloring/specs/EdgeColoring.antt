-- The colourings of an outline, after `edge_coloring_simple` and `edge_coloring_ink_trap` of coloring/mod.rs and
-- `edge_coloring_by_distance` of by_distance.rs, their first line replaced by the given threshold and the matrix by the
-- given distances; and the collecting pass of the last. One definition stands behind all four, and behind each with
-- the balanced division of teardrops in the place of the source's.
use Rattle.std.specs.Prelude.{ℕ, List, [], ◌∷◌, leb, Float, length}
use Rattle.coloring.specs.Answers.{unless}
use Rattle.coloring.specs.Limits.{max_distances}
use Rattle.coloring.specs.declared.settings.Strategy.TheVariants.{Simple, InkTrap}
use Rattle.coloring.specs.declared.settings.Marking.{Marking}
use Rattle.coloring.specs.declared.settings.Marking.TheVariants.{Colors, Numbers, Distances}
use Rattle.coloring.specs.declared.settings.Division.{Division}
use Rattle.coloring.specs.declared.settings.Division.TheVariants.{Source}
use Rattle.coloring.specs.declared.settings.Settings.{Settings}
use Rattle.coloring.specs.Corners.{find_corners}
use Rattle.coloring.specs.Layout.{layout}
use Rattle.coloring.specs.Splines.{spline_total}
use Rattle.coloring.specs.Values.{spline_values}
use Rattle.coloring.specs.Outline.{Outline, Result, Outcome, contours, check, deliver}
use Rattle.coloring.specs.Shape.{painted, counts_of, deliver_found}

-- The outcome of an entry, answer and buffers: the checks, too many distances counted with too many contours and edges;
-- the corners and the stand-ins of all contours; then the edges of the result and the byte of each.
unfoldable pub edge_coloring : Settings → Outline → List Float → Result → Outcome
unfolding find_corners contours check layout deliver painted counts_of spline_values spline_total
edge_coloring settings o distances =
    deliver_found (unless 4 (leb (length distances) max_distances) ∷ check o settings.threshold) settings distances
    (find_corners settings.threshold (contours o))

abbrev pub settings_of : Division → Marking → Float → Settings
settings_of division marking threshold = record { marking = marking; threshold = threshold; division = division }

-- ---- as the source has them

abbrev pub edge_coloring_simple : Outline → Float → ℕ → Result → Outcome
edge_coloring_simple o threshold seed = edge_coloring (settings_of Source (Colors Simple seed) threshold) o []

abbrev pub edge_coloring_ink_trap : Outline → Float → ℕ → Result → Outcome
edge_coloring_ink_trap o threshold seed = edge_coloring (settings_of Source (Colors InkTrap seed) threshold) o []

abbrev pub edge_coloring_by_distance : Outline → Float → ℕ → List Float → Result → Outcome
edge_coloring_by_distance o threshold seed distances = edge_coloring (settings_of Source (Distances seed) threshold) o distances

-- the split outline, each edge with the number of its spline
abbrev pub collect_splines : Outline → Float → Result → Outcome
collect_splines o threshold = edge_coloring (settings_of Source Numbers threshold) o []
