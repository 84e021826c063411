-- Where no corner is minor, as with two or three corners, ink-trap colouring gives the colours of simple colouring.
use mathlib.Core.Path.{◌≡◌, refl, ap, sym, ◌∙◌}
use mathlib.Core.Bool.{false, cond}
use mathlib.Core.List.{List, [], ◌∷◌, map}
use Prim.Native.Nat.{ℕ, zero, suc, ◌+◌, ◌-◌, ◌%◌, ◌^◌, ◌≤◌, ◌<◌}
use native.Mathlib.Nat.{zero-mul}
use native.Mathlib.Omega.{arith}
use lib.Ieee.{Float}
use lib.ListN.{length, get_or}
use Rattle.geometry.specs.declared.edge_color.EdgeColor.{EdgeColor}
use Rattle.geometry.specs.declared.edge_color.EdgeColor.TheVariants.{Black, Red, Green, Yellow, Blue, Magenta, Cyan, White}
use Rattle.coloring.specs.Seed.{seed_extract2}
use Rattle.coloring.specs.declared.switching.Pen.{Pen}
use Rattle.coloring.specs.declared.ink_trap.InkTrapCorner.{InkTrapCorner}
use Rattle.coloring.specs.Switching.{SplineColors, switch_color, switch_color_banned, banned_before, turn_left, shared}
use Rattle.coloring.specs.Simple.{simple_colors, simple_from}
use Rattle.coloring.specs.Corners.{Cornered, corner_count}
use Rattle.coloring.specs.InkTrap.{around, no_corner, is_black, major_count, Inked, color_majors, color_minors, measure_corners, color_corners, ink_trap_colors}
use Rattle.coloring.proofs.switching.DrawLaws.{simple_length}
use Rattle.coloring.proofs.ink_trap.MeasureLaws.{measured-count, measured_majors}
use Rattle.coloring.proofs.ink_trap.CornerLaws.{color_of, majors_most, mark_few, major_here, majors_major, colored, splines}

-- ---- Black: it bans nothing, and stays what it is

none-shared : (c : EdgeColor) → shared c Black ≡ 0
unfolding shared
none-shared Black = refl
none-shared Red = refl
none-shared Green = refl
none-shared Yellow = refl
none-shared Blue = refl
none-shared Magenta = refl
none-shared Cyan = refl
none-shared White = refl

never_banned : (left : ℕ) → banned_before Black left ≡ Black
never_banned left = grind arith

banned_black : (left : ℕ) (pen : Pen) → switch_color_banned (banned_before Black left) pen ≡ switch_color pen
unfolding switch_color_banned
banned_black left pen = rw (never_banned left, none-shared pen.color)

black_stays : (pen : Pen) → pen.color ≡ Black → (switch_color pen).color ≡ Black
unfolding switch_color turn_left
black_stays pen e = rw (e, zero-mul (2 ^ (1 + (seed_extract2 pen.seed).value)))

-- ---- all corners are major

-- the first of them, and those after it
heads : (k : InkTrapCorner) (cs : List InkTrapCorner) → major_count (k ∷ cs) ≡ length (k ∷ cs) → (k.minor ≡ false) × (major_count cs ≡ length cs)
unfolding major_count
heads k cs e = (grind (arith, majors_most cs), grind (arith, majors_most cs))

all_major : (cs : List InkTrapCorner) → major_count cs ≡ length cs → (i : ℕ) → (get_or cs i no_corner).minor ≡ false
all_major [] e i = refl
all_major (k ∷ cs) e zero = (heads k cs e).0
all_major (k ∷ cs) e (suc i) = all_major cs (heads k cs e).1 i

-- no minor corner is to be coloured
no_minors : (cs : List InkTrapCorner) → major_count cs ≡ length cs → (i k : ℕ) (color : EdgeColor) → color_minors i k color cs ≡ cs
unfolding color_minors around
no_minors cs e i zero color = refl
no_minors cs e i (suc k) color = major_here i k color cs (all_major cs e (i % length cs)) ∙ no_minors cs e (suc i) k (around cs i).color

-- The first colour stays the first: it is Black only where all are.
abbrev Steady : EdgeColor → Pen → Type 0
Steady initial pen = initial ≡ Black → pen.color ≡ Black

first_stays : (initial : EdgeColor) (left : ℕ) (pen : Pen) → Steady initial pen
    → let next = switch_color_banned (banned_before initial left) pen in
    (cond (is_black initial) next.color initial ≡ initial) × Steady initial next
first_stays Black left pen s =
    let black = ap (λ (p : Pen). p.color) (banned_black left pen) ∙ black_stays pen (s refl) in
    (black, λ e. black)
first_stays Red left pen s = (refl, λ e. cc)
first_stays Green left pen s = (refl, λ e. cc)
first_stays Yellow left pen s = (refl, λ e. cc)
first_stays Blue left pen s = (refl, λ e. cc)
first_stays Magenta left pen s = (refl, λ e. cc)
first_stays Cyan left pen s = (refl, λ e. cc)
first_stays White left pen s = (refl, λ e. cc)

one_less : (n : ℕ) → suc n - 1 ≡ n
one_less n = omega arith

-- corners whose colours are those of splines, and none of which is minor
record Simple (inked : Inked) (splines : SplineColors) : Type 0 where
  colors : map color_of inked.corners ≡ splines.colors
  pen : inked.pen ≡ splines.pen
  majors : major_count inked.corners ≡ length inked.corners

majors_simple : (initial : EdgeColor) (pen : Pen) (cs : List InkTrapCorner) → major_count cs ≡ length cs → Steady initial pen
    → Simple (color_majors initial (length cs) pen cs) (simple_from initial (length cs) pen)
unfolding color_majors simple_from major_count
majors_simple initial pen [] e s = record { colors = refl; pen = refl; majors = refl }
majors_simple initial pen (k ∷ cs) e s =
    let next = switch_color_banned (banned_before initial (length cs)) pen in
    let first = first_stays initial (length cs) pen s in
    let rest = majors_simple initial next cs (heads k cs e).1 first.1 in
    rw (majors_major initial (suc (length cs)) pen k cs (heads k cs e).0, one_less (length cs), first.0)
    (record { colors = rw rest.colors; pen = rest.pen; majors = rw (heads k cs e).0 (omega (arith, rest.majors)) })

all_simple : (k : InkTrapCorner) (cs : List InkTrapCorner) (pen : Pen) → major_count (k ∷ cs) ≡ length (k ∷ cs)
    → Simple (color_majors Black (length (k ∷ cs)) pen (k ∷ cs)) (simple_colors (length cs) pen)
unfolding simple_colors major_count
all_simple k cs pen e =
    let first = switch_color pen in
    let rest = majors_simple first.color first cs (heads k cs e).1 (λ black. black) in
    rw (majors_major Black (suc (length cs)) pen k cs (heads k cs e).0, one_less (length cs), banned_black (length cs) pen)
    (record { colors = rw rest.colors; pen = rest.pen; majors = rw (heads k cs e).0 (omega (arith, rest.majors)) })

-- ---- the splines' colours

-- the last colour is the pen's
last-color : (initial : EdgeColor) (k : ℕ) (pen : Pen) → get_or (pen.color ∷ (simple_from initial k pen).colors) k Black ≡ (simple_from initial k pen).pen.color
unfolding simple_from
last-color initial zero pen = refl
last-color initial (suc k) pen = last-color initial k (switch_color_banned (banned_before initial k) pen)

splines_simple : (inked : Inked) (k : ℕ) (pen : Pen) → Simple inked (simple_colors k pen) → splines inked ≡ simple_colors k pen
unfolding simple_colors
splines_simple inked k pen s =
    let first = switch_color pen in
    rw (s.colors, s.pen, simple_length first.color k first, one_less k, last-color first.color k first)

few : (cs : List InkTrapCorner) (length-after : Float) (pen : Pen) → major_count cs ≡ length cs → 0 < length cs → length cs ≤ 3
    → splines (color_corners (record { corners = cs; spline_length = length-after }) pen) ≡ simple_colors (length cs - 1) pen
few [] s pen e h l = absurd (omega arith)
few (k ∷ cs) s pen e h l =
    let simple = all_simple k cs pen e in
    let inked = color_majors Black (length (k ∷ cs)) pen (k ∷ cs) in
    ap splines (colored _ pen (k ∷ cs) (length (k ∷ cs)) inked (length (k ∷ cs)) (sym (mark_few s (k ∷ cs) l)) (sym e) refl refl)
    ∙ rw (no_minors inked.corners simple.majors 0 (length (k ∷ cs)) inked.pen.color, one_less (length cs))
    (splines_simple inked (length cs) pen simple)

pub few_simple : (contour : Cornered) (pen : Pen) → length contour.corners ≡ length contour.edges
    → 0 < corner_count contour.corners → corner_count contour.corners ≤ 3
    → ink_trap_colors contour pen ≡ simple_colors (corner_count contour.corners - 1) pen
unfolding ink_trap_colors
few_simple contour pen l h k =
    let n = measured-count contour l in
    let m = measure_corners contour in
    rw (← n) (few m.corners m.spline_length pen (measured_majors contour) (omega arith) (omega arith))
