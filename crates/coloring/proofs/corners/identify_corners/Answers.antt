-- The answers for `identify_corners`, by the invariant of Invariants.antt.
use native.Mathlib.Omega.{arith}
use mathlib.Core.Path.{◌≡◌, sym, ap, ◌∙◌}
use mathlib.Core.Bool.{Bool}
use mathlib.Core.List.{List}
use lib.ListN.{length}
use Rattle.coloring.specs.declared.directions.Ends.{Ends}
use Rattle.coloring.specs.Lists.{over_from}
use Rattle.coloring.specs.Corners.{flags_after, flags_between}
use Rattle.coloring.specs.Directions.{decode_ends}
use Rattle.coloring.specs.Sizes.{between-length}
use Rattle.coloring.proofs.Lists.{length-zero}
use Rattle.coloring.proofs.Writing.{over-all, over-next, over_nothing}
use Rattle.coloring.proofs.directions.DirectionLaws.{decode-length}
use Rattle.coloring.proofs.corners.SearchLaws.{flags-start, flags-next, flags_end}
use Rattle.coloring.proofs.corners.identify_corners.Goals as goal

pub returns-then-m-eq0 : goal.returns-then-m-eq0
unfolding flags_between decode_ends
returns-then-m-eq0 c =
    let a = c.args in
    rw c.if-m-eq0.true (length-zero a.flags.now c.if-m-eq0.true)

pub loop-i-init : goal.loop-i-init
loop-i-init c =
    let a = c.args in
    let m = length a.flags.now in
    let found = decode_ends m a.directions.now in
    let long : m ≡ length (flags_between a.threshold found) = sym (between-length a.threshold found ∙ decode-length m a.directions.now) in
    let start : flags_between a.threshold found ≡ flags_after a.threshold c.ends_at.result.end found =
    flags-start a.threshold m a.directions.now (omega arith)
    ∙ ap (λ (d : Ends). flags_after a.threshold d.end found) (sym c.ends_at.ensures) in
    sym (over-all _ a.flags.now long) ∙ ap (λ (flags : List Bool). over_from 0 flags a.flags.now) start

pub loop-i-preserved : goal.loop-i-preserved
loop-i-preserved c =
    let at = c.loop-i in
    let a = c.args in
    at.invariant
    ∙ rw (c.is_corner.ensures, c.ends_at-d.ensures, flags-next a.threshold (length a.flags.now) a.directions.now at.prev at.i (omega arith))
    (over-next at.i _ _ at.flags (omega arith))

pub returns : goal.returns
returns c =
    let at = c.loop-i in
    let a = c.args in
    sym (at.invariant
    ∙ rw (flags_end a.threshold (length a.flags.now) a.directions.now at.prev at.i (omega arith)) (over_nothing at.i at.flags))
