-- The passes of the ink-trap colouring over the corner records, a turn at a time: what a store to the array does to the
-- definition's lists.
use mathlib.Core.Path.{◌≡◌, refl, ap, sym, ◌∙◌}
use mathlib.Core.Bool.{Bool, true, false, ◌&&◌, cond}
use mathlib.Core.List.{List, [], ◌∷◌, ◌++◌, map, append-nil, map-append}
use Prim.Native.Nat.{ℕ, zero, suc, ◌+◌, ◌-◌, ◌%◌, ◌≤◌, ◌<◌}
use native.Mathlib.Omega.{arith}
use native.Mathlib.Numerals.{add-one}
use native.Mathlib.Nat.{mod-eq_of_lt, sub-eq-zero_of_le, zero-add}
use lib.Dec.{ltb}
use borrow.Author.Tests.{lt-ltb, le-ltb}
use lib.Seq.{map-set_same, get_or_at, set_at, take_all, take-suc, take-suc-set, drop-cons, drop-set-lt}
use lib.Seq.{append_snoc}
use lib.ListN.{length, take, drop, get_or, set, drop_of_length-le, length-map, get_or-map}
use lib.Ieee as Ieee
use lib.Ieee.{Float}
use Rattle.geometry.specs.EdgeColor.{bits_of, from_bits}
use Rattle.geometry.specs.declared.edge_color.EdgeColor.{EdgeColor}
use Rattle.geometry.specs.declared.edge_color.EdgeColor.TheVariants.{Black}
use Rattle.coloring.specs.Bools.{branch_true, branch_false}
use Rattle.coloring.specs.Lists.{range, length-range}
use Rattle.coloring.specs.declared.switching.Pen.{Pen}
use Rattle.coloring.specs.declared.ink_trap.InkTrapCorner.{InkTrapCorner}
use Rattle.coloring.specs.Switching.{shared, switch_color_banned, banned_before, SplineColors, ColorsHeld}
use Rattle.coloring.specs.Corners.{Cornered}
use Rattle.coloring.specs.InkTrap.{with_minor, with_color, no_corner, closed, close_first, around, is_minor, Measured, mark_minors}
use Rattle.coloring.specs.InkTrap.{major_count, is_black, Inked, color_majors, color_minors, measure_corners, color_corners, ink_trap_colors}
use Rattle.coloring.proofs.Lists.{range_snoc}

-- ---- minor corners

pub close_first_lem : (s : Float) (cs : List InkTrapCorner) → set cs 0 (closed s (get_or cs 0 no_corner)) ≡ close_first s cs
unfolding close_first
close_first_lem s [] = refl
close_first_lem s (k ∷ cs) = refl

pub close_first_length : (s : Float) (cs : List InkTrapCorner) → length (close_first s cs) ≡ length cs
unfolding close_first
close_first_length s [] = refl
close_first_length s (k ∷ cs) = refl

-- a corner as the definition marks it
abbrev marked_at : List InkTrapCorner → ℕ → InkTrapCorner
marked_at cs i = with_minor (is_minor cs i) (around cs i)

-- the corners marked up to place i, and those ahead as they were
unfoldable pub marking : ℕ → List InkTrapCorner → List InkTrapCorner
marking i cs = map (marked_at cs) (range 0 i) ++ drop i cs

around_here : (i : ℕ) (cs : List InkTrapCorner) → i < length cs → around cs i ≡ get_or cs i no_corner
unfolding around
around_here i cs h = rw (mod-eq_of_lt h)

marking-length : (i : ℕ) (cs : List InkTrapCorner) → length (map (marked_at cs) (range 0 i)) ≡ i
marking-length i cs = length-map (range 0 i) (marked_at cs) ∙ length-range 0 i

marking-next : (i : ℕ) (cs : List InkTrapCorner) → i < length cs → get_or (marking i cs) i no_corner ≡ get_or cs i no_corner
unfolding marking
marking-next i cs h =
    rw (drop-cons cs i no_corner h, get_or_at (map (marked_at cs) (range 0 i)) (get_or cs i no_corner) (drop (suc i) cs) no_corner i (marking-length i cs))

marking-turn : (i : ℕ) (cs : List InkTrapCorner) → i < length cs → set (marking i cs) i (marked_at cs i) ≡ marking (i + 1) cs
unfolding marking
marking-turn i cs h =
    rw (
      drop-cons cs i no_corner h,
      set_at (map (marked_at cs) (range 0 i)) (get_or cs i no_corner) (drop (suc i) cs) (marked_at cs i) i (marking-length i cs),
      add-one i,
      range_snoc 0 i,
      zero-add,
      map-append,
      append_snoc,
    )

abbrev estimate : InkTrapCorner → Float
estimate k = k.prev_edge_length_estimate

pub marking-none : (cs : List InkTrapCorner) → marking 0 cs ≡ cs
unfolding marking range
marking-none cs = refl

-- the estimates stay while the corners are marked
estimates_stay : (i : ℕ) (cs : List InkTrapCorner) → i ≤ length cs → map estimate (marking i cs) ≡ map estimate cs
estimates_stay zero cs h = ap (map estimate) (marking-none cs)
estimates_stay (suc i) cs h =
    rw (← add-one i, ← marking-turn i cs h)
    (map-set_same estimate (marking i cs) i (marked_at cs i) no_corner
    (ap estimate (around_here i cs h ∙ sym (marking-next i cs h)))
    ∙ estimates_stay i cs (omega arith))

-- a turn at place i of n: the flag from the three estimates as they stand
module _ (i n : ℕ) (old cs : List InkTrapCorner) (h : i < n) (size : length old ≡ n) (so_far : cs ≡ marking i old) where
  at : (j : ℕ) → estimate (around old j) ≡ estimate (get_or cs (j % n) no_corner)
  unfolding around
  at j =
      rw (so_far, size)
      (sym (get_or-map estimate old (j % n) no_corner)
      ∙ ap (λ (l : List Float). get_or l (j % n) (estimate no_corner)) (sym (estimates_stay i old (omega arith)))
      ∙ get_or-map estimate (marking i old) (j % n) no_corner)

  here_marked : around old i ≡ get_or cs i no_corner
  here_marked = around_here i old (omega arith) ∙ rw so_far (sym (marking-next i old (omega arith)))

  abbrev flag : Bool
  flag =
      let next = estimate (get_or cs ((i + 1) % n) no_corner) in
      Ieee.lt next (estimate (get_or cs i no_corner)) && Ieee.lt next (estimate (get_or cs ((i + 2) % n) no_corner))

  flagged : is_minor old i ≡ flag
  unfolding is_minor
  flagged = rw (at (i + 1), at (i + 2), ap estimate here_marked)

  pub mark_turn : {minor : Bool} → minor ≡ flag → set cs i (with_minor minor (get_or cs i no_corner)) ≡ marking (i + 1) old
  mark_turn f = rw (f, ← flagged, ← here_marked, so_far) (marking-turn i old (omega arith))

-- with more than three corners the marks are the definition's; with fewer there are none
module _ (s : Float) (cs : List InkTrapCorner) where
  pub mark_many : 3 < length cs → marking (length cs) (close_first s cs) ≡ mark_minors (record { corners = cs; spline_length = s })
  unfolding marking mark_minors
  mark_many h =
      sym
      (branch_true (ltb 3 (length cs)) _ _ (lt-ltb 3 (length cs) h)
      ∙ ap (λ (k : ℕ). map (marked_at (close_first s cs)) (range 0 k)) (close_first_length s cs)
      ∙ sym (append-nil _)
      ∙ ap (λ (l : List InkTrapCorner). map (marked_at (close_first s cs)) (range 0 (length cs)) ++ l)
      (sym (drop_of_length-le (close_first s cs) {i = length cs} (omega (arith, close_first_length s cs)))))

  pub mark_few : length cs ≤ 3 → mark_minors (record { corners = cs; spline_length = s }) ≡ cs
  unfolding mark_minors
  mark_few h = branch_false (ltb 3 (length cs)) _ _ (le-ltb 3 (length cs) h)

-- how many corners are major, one more at the end
majors_snoc : (cs : List InkTrapCorner) (k : InkTrapCorner) → major_count (cs ++ (k ∷ [])) ≡ major_count cs + cond k.minor 0 1
unfolding major_count
majors_snoc [] k = omega arith
majors_snoc (x ∷ cs) k = rw (majors_snoc cs k) (omega arith)

pub majors_most : (cs : List InkTrapCorner) → major_count cs ≤ length cs
unfolding major_count
majors_most [] = omega arith
majors_most (x ∷ cs) = grind (arith, majors_most cs)

pub majors_next : (i : ℕ) (cs : List InkTrapCorner) (k : InkTrapCorner) → i < length cs → {minor : Bool} → k.minor ≡ minor
    → major_count (take (i + 1) (set cs i k)) ≡ major_count (take i cs) + cond minor 0 1
majors_next i cs k h e = rw (add-one i, take-suc-set cs i k h) (majors_snoc (take i cs) k ∙ rw e)

-- ---- the colours of major corners

-- the corners coloured up to place i, and those ahead by the definition
unfoldable pub going : ℕ → EdgeColor → ℕ → Pen → List InkTrapCorner → Inked
going i initial left pen cs =
    let rest = color_majors initial left pen (drop i cs) in
    record { corners = take i cs ++ rest.corners; pen = rest.pen }

pub going_begins : (initial : EdgeColor) (left : ℕ) (pen : Pen) (cs : List InkTrapCorner) → color_majors initial left pen cs ≡ going 0 initial left pen cs
unfolding going
going_begins initial left pen cs = refl

pub going-ends : (i : ℕ) (initial : EdgeColor) (left : ℕ) (pen : Pen) (cs : List InkTrapCorner) → length cs ≤ i
    → going i initial left pen cs ≡ record { corners = cs; pen = pen }
unfolding going color_majors
going-ends i initial left pen cs h = rw (drop_of_length-le cs {i = i} h, take_all i cs h, append-nil)

module _ (initial : EdgeColor) (left : ℕ) (pen : Pen) where
  majors_minor : (k : InkTrapCorner) (cs : List InkTrapCorner) → k.minor ≡ true
      → color_majors initial left pen (k ∷ cs)
      ≡ record { corners = k ∷ (color_majors initial left pen cs).corners; pen = (color_majors initial left pen cs).pen }
  unfolding color_majors
  majors_minor k cs e = branch_true k.minor _ _ e

  -- the pen after a major corner, and the first colour taken
  abbrev next_pen : Pen
  next_pen = switch_color_banned (banned_before initial (left - 1)) pen

  abbrev next_initial : EdgeColor
  next_initial = cond (is_black initial) next_pen.color initial

  pub majors_major : (k : InkTrapCorner) (cs : List InkTrapCorner) → k.minor ≡ false
      → color_majors initial left pen (k ∷ cs)
      ≡ record {
        corners = with_color next_pen.color k ∷ (color_majors next_initial (left - 1) next_pen cs).corners;
        pen = (color_majors next_initial (left - 1) next_pen cs).pen;
      }
  unfolding color_majors
  majors_major k cs e = branch_false k.minor _ _ e

  -- a turn at place i, and how many major corners are ahead of it
  module _ (i : ℕ) (cs : List InkTrapCorner) (h : i < length cs) where
    going_major : (get_or cs i no_corner).minor ≡ false
        → going i initial left pen cs
        ≡ going (i + 1) next_initial (left - 1) next_pen (set cs i (with_color next_pen.color (get_or cs i no_corner)))
    unfolding going
    going_major e =
        let corner = get_or cs i no_corner in
        rw (add-one i, drop-set-lt (suc i) cs i (with_color next_pen.color corner) (omega arith), drop-cons cs i no_corner h)
        (rw (majors_major corner (drop (suc i) cs) e, take-suc-set cs i (with_color next_pen.color corner) h, append_snoc))

    going_minor : (get_or cs i no_corner).minor ≡ true → going i initial left pen cs ≡ going (i + 1) initial left pen cs
    unfolding going
    going_minor e =
        rw (
          add-one i,
          drop-cons cs i no_corner h,
          majors_minor (get_or cs i no_corner) (drop (suc i) cs) e,
          take-suc cs i no_corner h,
          append_snoc,
        )

    pub majors_ahead : {minor : Bool} → (get_or cs i no_corner).minor ≡ minor → major_count (drop i cs) ≡ cond minor 0 1 + major_count (drop (i + 1) cs)
    unfolding major_count
    majors_ahead e = rw (drop-cons cs i no_corner h, add-one i, e)

    pub majors_turn : {banned initial' : EdgeColor} {next : Pen} → (get_or cs i no_corner).minor ≡ false → left ≡ major_count (drop i cs)
        → next ≡ switch_color_banned banned pen → banned ≡ banned_before initial (left - 1) → initial' ≡ cond (is_black initial) next.color initial
        → let cs' = set cs i (with_color next.color (get_or cs i no_corner)) in
        (left - 1 ≡ major_count (drop (i + 1) cs')) × (going i initial left pen cs ≡ going (i + 1) initial' (left - 1) next cs')
    majors_turn e counted s b first = (
      rw (drop-set-lt (i + 1) cs i _ (omega arith)) (omega (arith, majors_ahead e)),
      rw (first, s, b) (going_major e),
    )

    pub minors_turn : (get_or cs i no_corner).minor ≡ true → left ≡ major_count (drop i cs)
        → (left ≡ major_count (drop (i + 1) cs)) × (going i initial left pen cs ≡ going (i + 1) initial left pen cs)
    minors_turn e counted = (omega (arith, majors_ahead e), going_minor e)

-- ---- the colours of minor corners

minor_here : (i k : ℕ) (color : EdgeColor) (cs : List InkTrapCorner) → (around cs i).minor ≡ true
    → color_minors i (suc k) color cs
    ≡ color_minors (suc i) k color (set cs i (with_color (from_bits (7 - shared color (around cs (i + 1)).color)) (around cs i)))
unfolding color_minors
minor_here i k color cs e = branch_true (around cs i).minor _ _ e

pub major_here : (i k : ℕ) (color : EdgeColor) (cs : List InkTrapCorner) → (around cs i).minor ≡ false
    → color_minors i (suc k) color cs ≡ color_minors (suc i) k (around cs i).color cs
unfolding color_minors
major_here i k color cs e = branch_false (around cs i).minor _ _ e

-- a turn at place i of n
module _ (i n : ℕ) (color : EdgeColor) (cs : List InkTrapCorner) (h : i < n) (size : length cs ≡ n) where
  ahead : n - i ≡ suc (n - suc i)
  ahead = omega arith

  here : around cs i ≡ get_or cs i no_corner
  here = around_here i cs (omega arith)

  next : around cs (i + 1) ≡ get_or cs ((i + 1) % n) no_corner
  unfolding around
  next = rw size

  pub minor_turn : (get_or cs i no_corner).minor ≡ true
      → color_minors i (n - i) color cs
      ≡ color_minors (i + 1) (n - (i + 1)) color
      (set cs i (with_color (from_bits (7 - shared color (get_or cs ((i + 1) % n) no_corner).color)) (get_or cs i no_corner)))
  minor_turn e =
      ap (λ (k : ℕ). color_minors i k color cs) ahead
      ∙ minor_here i (n - suc i) color cs (ap (λ (k : InkTrapCorner). k.minor) here ∙ e)
      ∙ rw (here, next, add-one i)

  pub major_turn : (get_or cs i no_corner).minor ≡ false
      → color_minors i (n - i) color cs ≡ color_minors (i + 1) (n - (i + 1)) (get_or cs i no_corner).color cs
  major_turn e =
      ap (λ (k : ℕ). color_minors i k color cs) ahead
      ∙ major_here i (n - suc i) color cs (ap (λ (k : InkTrapCorner). k.minor) here ∙ e)
      ∙ rw (here, add-one i)

pub minors-done : (i n : ℕ) (color : EdgeColor) (cs : List InkTrapCorner) → n ≤ i → color_minors i (n - i) color cs ≡ cs
unfolding color_minors
minors-done i n color cs h = rw (sub-eq-zero_of_le h)

-- ---- the colours of the corners, as bytes

abbrev pub color_of : InkTrapCorner → EdgeColor
color_of corner = corner.color

-- those up to place k are stored, and the next is
pub bytes_next : (k : ℕ) (cs before : List InkTrapCorner) (bytes : List ℕ) → k < length cs → k < length bytes → take k cs ≡ take k before
    → take k bytes ≡ map bits_of (map color_of (take k before))
    → take (k + 1) (set bytes k (bits_of (color_of (get_or cs k no_corner)))) ≡ map bits_of (map color_of (take (k + 1) cs))
bytes_next k cs before bytes h l same e =
    rw (add-one k, take-suc-set bytes k (bits_of (color_of (get_or cs k no_corner))) l, take-suc cs k no_corner h, map-append, map-append, same, e)

-- ---- the whole

-- from the passes' results to the colours of all corners
pub colored : (m : Measured) (pen : Pen) (marked : List InkTrapCorner) (left : ℕ) (inked : Inked) (n : ℕ)
    → marked ≡ mark_minors m → left ≡ major_count marked → color_majors Black left pen marked ≡ inked → length marked ≡ n
    → color_corners m pen ≡ record { corners = color_minors 0 n inked.pen.color inked.corners; pen = inked.pen }
unfolding color_corners
colored m pen marked left inked n e f g l = rw (← e, ← f, g, l)

-- the splines' colours of coloured corners
abbrev pub splines : Inked → SplineColors
splines inked =
    let colors = map color_of inked.corners in
    record { colors = colors; pen = record { color = get_or colors (length colors - 1) Black; seed = inked.pen.seed } }

pub drawn : (contour : Cornered) (pen ink : Pen) (cs : List InkTrapCorner) (bytes : List ℕ)
    → color_corners (measure_corners contour) pen ≡ record { corners = cs; pen = ink } → bytes ≡ map bits_of (map color_of cs)
    → ColorsHeld (ink_trap_colors contour pen) bytes (record { color = color_of (get_or cs (length cs - 1) no_corner); seed = ink.seed })
unfolding ink_trap_colors
drawn contour pen ink cs bytes e b =
    let whole : ink_trap_colors contour pen ≡ splines (record { corners = cs; pen = ink }) = ap splines e in
    let last : color_of (get_or cs (length cs - 1) no_corner) ≡ get_or (map color_of cs) (length (map color_of cs) - 1) Black =
    rw (length-map cs color_of, get_or-map color_of cs (length cs - 1) no_corner) in
    rw whole (record { colors_are = b; pen_is = ap (λ (c : EdgeColor). record { color = c; seed = ink.seed }) last })
