-- Colour switching, after `init_color` to `switch_color_banned` of coloring/mod.rs (SCOPE, leaf 6).
use Rattle.std.specs.Prelude.{ℕ, zero, suc, ◌+◌, ◌-◌, ◌*◌, ◌/◌, ◌%◌, ◌^◌, Bool, ◌||◌, cond, ◌≡◌, List, [], ◌∷◌, map, get_or, eqb}
use Rattle.geometry.specs.EdgeColor.{bits_of, from_bits}
use Rattle.geometry.specs.declared.edge_color.EdgeColor.{EdgeColor}
use Rattle.geometry.specs.declared.edge_color.EdgeColor.TheVariants.{Black, Yellow, Magenta, Cyan}
use Rattle.coloring.specs.Seed.{seed_extract2, seed_extract3}
use Rattle.coloring.specs.declared.switching.Pen.{Pen}

-- the first colour, by the seed mod 3: Cyan, Magenta, Yellow
unfoldable pub init_color : ℕ → Pen
init_color seed =
    let draw = seed_extract3 seed in
    record { color = get_or (Cyan ∷ Magenta ∷ Yellow ∷ []) draw.value Cyan; seed = draw.seed }

-- the three bits of a colour turned left by k places, 1 or 2
unfoldable pub turn_left : ℕ → EdgeColor → EdgeColor
turn_left k color =
    let shifted = bits_of color * 2 ^ k in
    from_bits (shifted % 8 + shifted / 8)

-- the colour turned left by 1 + the draw
unfoldable pub switch_color : Pen → Pen
unfolding turn_left
switch_color pen =
    let draw = seed_extract2 pen.seed in
    record { color = turn_left (1 + draw.value) pen.color; seed = draw.seed }

-- the channels that two colours share, bit by bit: a & b
unfoldable pub shared : EdgeColor → EdgeColor → ℕ
shared a b =
    (bits_of a % 2) * (bits_of b % 2)
    + 2 * ((bits_of a / 2 % 2) * (bits_of b / 2 % 2))
    + 4 * ((bits_of a / 4) * (bits_of b / 4))

-- whether a set of channels, as a number, has one member
abbrev pub one_channel : ℕ → Bool
one_channel channels = eqb channels 1 || eqb channels 2 || eqb channels 4

-- The two other channels, and no draw, where the colour shares exactly one channel with the banned one; else a switch.
unfoldable pub switch_color_banned : EdgeColor → Pen → Pen
unfolding shared switch_color
switch_color_banned banned pen =
    let combined = shared pen.color banned in
    cond (one_channel combined) (record { color = from_bits (7 - combined); seed = pen.seed }) (switch_color pen)

-- The colour that may not be taken with so many still to be coloured: the first one's, for the last of them.
abbrev pub banned_before : EdgeColor → ℕ → EdgeColor
banned_before initial left = cond (eqb left 0) initial Black

-- ---- colours for splines

-- the colours of a contour's splines, in order, and the pen that the next contour gets
pub record SplineColors : Type 0 where
  pub colors : List EdgeColor
  pub pen : Pen

-- k splines, each colour switched from the one before
unfoldable pub switch_each : ℕ → Pen → SplineColors
unfolding switch_color
switch_each zero pen = record { colors = []; pen = pen }
switch_each (suc k) pen =
    let next = switch_color pen in
    let rest = switch_each k next in
    record { colors = next.color ∷ rest.colors; pen = rest.pen }

-- bytes and a pen hold the colours of splines
pub record ColorsHeld (splines : SplineColors) (bytes : List ℕ) (pen : Pen) : Type 0 where
  pub colors_are : bytes ≡ map bits_of splines.colors
  pub pen_is : pen ≡ splines.pen
