-- The answers for `colors_by_length`, by the invariants of Invariants.antt.
use native.Mathlib.Omega.{arith}
use mathlib.Core.Bool.{true, false}
use mathlib.Core.Path.{◌≡◌, refl, sym, ap, ◌∙◌}
use mathlib.Core.List.{List, map}
use Prim.Native.Nat.{ℕ, ◌<◌}
use lib.ListN.{length, take, get_or, set, length-set, length-replicate}
use lib.Seq.{length-take-le, take_all}
use Rattle.std.proofs.lemmas.List.{take-set, set-get_or}
use denote.Enum.Bare.{sameb}
use Rattle.geometry.specs.contracts.edge_color.EdgeColor.{the_type}
use Rattle.geometry.specs.EdgeColor.{bits_of}
use Rattle.geometry.specs.declared.edge_color.EdgeColor.{EdgeColor}
use Rattle.geometry.specs.declared.edge_color.EdgeColor.TheVariants.{Black, Red, Green, Yellow, Blue, Magenta, Cyan, White}
use Rattle.coloring.specs.declared.ink_trap.InkTrapCorner.{InkTrapCorner}
use Rattle.coloring.specs.Corners.{Cornered, corner_count, estimate_edge_length}
use Rattle.coloring.specs.Contours.{stored_edges, contour_in}
use Rattle.coloring.specs.InkTrap.{with_minor, closed, no_corner, is_black, Measured, measure_corners, mark_minors, major_count, color_majors, color_corners}
use Rattle.coloring.proofs.outline.EdgeLaws.{edges-length}
use Rattle.coloring.proofs.ink_trap.MeasureLaws.{measuring_begins, measuring_corner, measuring-edge, measuring-ends, measured-count}
use Rattle.coloring.proofs.ink_trap.CornerLaws.{close_first_lem, marking, marking-none, mark_turn, mark_many, majors_next}
use Rattle.coloring.proofs.ink_trap.CornerLaws.{going_begins, going-ends, majors_ahead, majors_turn, minors_turn}
use Rattle.coloring.proofs.ink_trap.CornerLaws.{minor_turn, major_turn, minors-done, color_of, bytes_next, colored, drawn}
use Rattle.coloring.proofs.ink_trap.colors_by_length.Goals as goal
use Rattle.coloring.proofs.ink_trap.colors_by_length.Goals.{After-mark, After-measure, Start, then-flag, else-flag, then-minor, else-minor}
use Rattle.coloring.proofs.ink_trap.colors_by_length.Goals.{then-not-corner+then-eq, then-not-corner+else-eq, else-not-corner}
use Rattle.coloring.proofs.ink_trap.colors_by_length.Goals.{then-corners-i, else-corners-i}

pub measure-init : goal.measure-init
measure-init c =
    (omega arith, length-replicate 256 c.corner_at-array.result, measuring_begins _ (contour_in c.args.contour))

pub measure-preserved : goal.measure-preserved
measure-preserved c =
    let at = c.measure in
    let contour = c.args.contour in
    let edges = stored_edges contour.edges in
    let flags = contour.flags.now in
    let h : at.index < length edges = omega (arith, edges-length contour.edges.kinds.now contour.edges.points.now, contour.flagged) in
    let l : at.index < length flags = omega arith in
    let estimate = c.estimate_edge_length-spline_length.ensures ∙ ap estimate_edge_length c.at.ensures in
    elim c.if-flag.branch [
      | then-flag w ↦ (
        omega (arith, w.count-is),
        rw w.array-is (simp length-set at.invariant.1),
        rw (w.array-is, w.count-is, w.spline_length-is, estimate, w.corner_at.ensures)
            (at.invariant.2
            ∙ measuring_corner at.count at.index at.spline_length at.array edges flags h l (omega (arith, contour.flagged, contour.edges.few)) w.if-flag.true),
      )
      | else-flag w ↦ (
        omega (arith, w.count-is),
        rw w.array-is at.invariant.1,
        rw (w.array-is, w.count-is, w.spline_length-is, estimate)
            (at.invariant.2 ∙ measuring-edge at.count at.index at.spline_length at.array edges flags h l w.if-flag.false),
      )
    ]

module _ (c : After-measure) where
  -- the contour, its corners as they were measured, and those with the first one's estimate closed
  abbrev contour : Cornered
  contour = contour_in c.args.contour

  abbrev measured : List InkTrapCorner
  measured = take c.measure.count c.measure.array

  abbrev closed_up : List InkTrapCorner
  closed_up = set measured 0 (closed c.measure.spline_length (get_or measured 0 no_corner))

  found : measure_corners contour ≡ record { corners = measured; spline_length = c.measure.spline_length }
  found =
      let a = c.args.contour in
      let m = c.measure in
      m.invariant.2
      ∙ measuring-ends m.count m.index m.spline_length m.array (stored_edges a.edges) a.flags.now
      (omega (arith, edges-length a.edges.kinds.now a.edges.points.now, a.flagged))

  size : length measured ≡ c.measure.count
  size = length-take-le c.measure.count c.measure.array (omega (arith, c.args.contour.flagged, c.args.contour.edges.few))

  closed_size : length closed_up ≡ c.measure.count
  closed_size = simp length-set size

  counted : c.measure.count ≡ corner_count c.args.contour.flags.now
  counted =
      let a = c.args.contour in
      sym size
      ∙ sym (ap (λ (m : Measured). length m.corners) found)
      ∙ measured-count contour (a.flagged ∙ sym (edges-length a.edges.kinds.now a.edges.points.now))

  many : 3 < length measured
  many = omega (arith, size, counted, c.requires.0)

module _ (c : After-mark) where
  abbrev after_measure : After-measure
  after_measure = (goal.at.After-mark c).After-measure

  marked-size : length c.mark.corners ≡ c.measure.count
  marked-size = c.mark.auto.corners ∙ closed_size after_measure

  marked : c.mark.corners ≡ mark_minors (measure_corners (contour after_measure))
  marked =
      let s = c.measure.spline_length in
      let cs = measured after_measure in
      c.mark.invariant.1
      ∙ ap (λ (i : ℕ). marking i (closed_up after_measure)) (omega (arith, size after_measure))
      ∙ ap (marking (length cs)) (close_first_lem s cs)
      ∙ mark_many s cs (many after_measure)
      ∙ ap mark_minors (sym (found after_measure))

  majors : c.mark.left ≡ major_count c.mark.corners
  majors = omega (arith, c.mark.invariant.0, marked-size, ap major_count (take_all c.mark.i c.mark.corners (omega (arith, marked-size))))

pub bounds-corners-0 : goal.bounds-corners-0
bounds-corners-0 c = omega (arith, many (goal.at.bounds-corners-0 c).After-measure)

pub bounds-corners-0-2 : goal.bounds-corners-0-2
bounds-corners-0-2 c = omega (arith, many (goal.at.bounds-corners-0-2 c).After-measure)

pub mark-init : goal.mark-init
unfolding major_count
mark-init c = (omega arith, sym (marking-none _))

pub mark-preserved : goal.mark-preserved
mark-preserved c =
    let after_measure = (goal.at.mark-preserved c).After-measure in
    let at = c.mark in
    let corner = with_minor c.is_minor-minor.result (get_or at.corners at.i no_corner) in
    let h : at.i < length at.corners = omega (arith, at.auto.corners, closed_size after_measure) in (
      elim c.if-minor.branch [
        | then-minor w ↦ omega (arith, majors_next at.i at.corners corner h w.if-minor.true, w.left-is)
        | else-minor w ↦ omega (arith, majors_next at.i at.corners corner h w.if-minor.false, w.left-is)
      ],
      mark_turn at.i c.measure.count (closed_up after_measure) at.corners c.mark-test.true (closed_size after_measure)
          at.invariant.1 c.is_minor-minor.ensures,
    )

pub majors-init : goal.majors-init
majors-init c = (majors c, going_begins _ _ _ _)

pub overflow_sub-left-then-not-corner : goal.overflow_sub-left-then-not-corner
overflow_sub-left-then-not-corner c =
    let at = c.majors in
    omega (arith, majors_ahead at.initial_color at.left at.ink at.corner-index at.corners (omega arith) c.if-not-corner.true)

-- the test of the first colour is the definition's
black_test : (color : EdgeColor) → sameb the_type color Black ≡ is_black color
black_test Black = refl
black_test Red = refl
black_test Green = refl
black_test Yellow = refl
black_test Blue = refl
black_test Magenta = refl
black_test Cyan = refl
black_test White = refl

pub majors-preserved : goal.majors-preserved
majors-preserved c =
    let at = c.majors in
    let i = at.corner-index in
    let h : i < length at.corners = omega (arith, at.auto.corners) in
    let all = at.invariant.1 in
    elim c.if-not-corner.branch [
      | then-not-corner+then-eq w ↦
          let black : is_black at.initial_color ≡ true = sym (black_test at.initial_color) ∙ sym w.eq.ensures ∙ w.if-eq.true in
          let turn = majors_turn at.initial_color at.left at.ink i at.corners h w.if-not-corner.true at.invariant.0
          w.switch_color_banned-ink.ensures w.banned_before.ensures (w.initial_color-is ∙ rw black) in
          rw (w.corners-is, w.left-is, w.ink-is) (turn.0, all ∙ turn.1)
      | then-not-corner+else-eq w ↦
          let black : is_black at.initial_color ≡ false = sym (black_test at.initial_color) ∙ sym w.eq.ensures ∙ w.if-eq.false in
          let turn = majors_turn at.initial_color at.left at.ink i at.corners h w.if-not-corner.true at.invariant.0
          w.switch_color_banned-ink.ensures w.banned_before.ensures (w.initial_color-is ∙ rw black) in
          rw (w.corners-is, w.left-is, w.ink-is) (turn.0, all ∙ turn.1)
      | else-not-corner w ↦
          let turn = minors_turn at.initial_color at.left at.ink i at.corners h w.if-not-corner.false at.invariant.0 in
          rw (w.corners-is, set-get_or at.corners i no_corner, w.left-is, w.ink-is, w.initial_color-is) (turn.0, all ∙ turn.1)
    ]

pub bounds-colors-i : goal.bounds-colors-i
bounds-colors-i c =
    omega (arith, counted (goal.at.bounds-colors-i c).After-measure, c.requires.1)

pub minors-preserved : goal.minors-preserved
minors-preserved c =
    let after_mark = (goal.at.minors-preserved c).After-mark in
    let at = c.minors in
    let i = at.i in
    let h : i < c.measure.count = c.minors-test.true in
    let size : length at.corners ≡ c.measure.count = omega (arith, at.auto.corners, c.majors.auto.corners, marked-size after_mark) in
    let now = c.if-corners-i.corners in
    let inside : i < length now = omega (arith, c.if-corners-i.auto.corners) in
    let room : i < length at.colors = omega (arith, at.auto.colors, counted (goal.at.minors-preserved c).After-measure, c.requires.1) in
    elim c.if-corners-i.branch [
      | then-corners-i w ↦ (
        rw (w.corners-is, w.color-is, w.unshared.ensures)
            (at.invariant.0 ∙ minor_turn i c.measure.count at.color at.corners h size w.if-corners-i.true),
        rw c.bits.ensures (bytes_next i now at.corners at.colors inside room (rw w.corners-is (take-set at.corners i _)) at.invariant.1),
      )
      | else-corners-i w ↦ (
        rw (w.corners-is, w.color-is) (at.invariant.0 ∙ major_turn i c.measure.count at.color at.corners h size w.if-corners-i.false),
        rw c.bits.ensures (bytes_next i now at.corners at.colors inside room (rw w.corners-is) at.invariant.1),
      )
    ]

pub returns : goal.returns
returns c =
    let after_measure = (goal.at.returns c).After-measure in
    let after_mark = (goal.at.returns c).After-mark in
    let at = c.minors in
    let ink = c.majors.ink in
    let n = c.measure.count in
    let size : length at.corners ≡ n = omega (arith, at.auto.corners, c.majors.auto.corners, marked-size after_mark) in
    let inked : color_majors Black c.mark.left c.args.pen c.mark.corners ≡ record { corners = c.majors.corners; pen = ink } =
    c.majors.invariant.1 ∙ going-ends c.majors.corner-index c.majors.initial_color c.majors.left ink c.majors.corners (omega (arith, c.majors.auto.corners)) in
    let corners : color_corners (measure_corners (contour after_measure)) c.args.pen ≡ record { corners = at.corners; pen = ink } =
    colored _ _ c.mark.corners c.mark.left _ n (marked after_mark) (majors after_mark) inked (marked-size after_mark)
    ∙ ap (λ (cs : List InkTrapCorner). record { corners = cs; pen = ink })
    (at.invariant.0 ∙ minors-done at.i n at.color at.corners c.minors-test.false) in
    rw (← size) (drawn (contour after_measure) c.args.pen ink at.corners at.colors corners
    (sym (take_all at.i at.colors (omega (arith, at.auto.colors, counted after_measure, c.requires.1)))
    ∙ at.invariant.1
    ∙ ap (λ (cs : List InkTrapCorner). map bits_of (map color_of cs)) (take_all at.i at.corners (omega (arith, size)))))
