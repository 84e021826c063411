-- The colours of a contour's splines in simple colouring, after `edge_coloring_simple` of coloring/mod.rs.
use Rattle.std.specs.Prelude.{ℕ, zero, suc, [], ◌∷◌}
use Rattle.geometry.specs.declared.edge_color.EdgeColor.{EdgeColor}
use Rattle.coloring.specs.declared.switching.Pen.{Pen}
use Rattle.coloring.specs.Switching.{SplineColors, switch_color, switch_color_banned, banned_before}

-- k splines after the first one, which has the colour `initial`
unfoldable pub simple_from : EdgeColor → ℕ → Pen → SplineColors
unfolding switch_color_banned
simple_from initial zero pen = record { colors = []; pen = pen }
simple_from initial (suc left) pen =
    let next = switch_color_banned (banned_before initial left) pen in
    let rest = simple_from initial left next in
    record { colors = next.color ∷ rest.colors; pen = rest.pen }

-- k + 1 splines, two or more
unfoldable pub simple_colors : ℕ → Pen → SplineColors
unfolding switch_color simple_from
simple_colors k pen =
    let first = switch_color pen in
    let rest = simple_from first.color k first in
    record { colors = first.color ∷ rest.colors; pen = rest.pen }
