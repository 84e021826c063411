-- The answers for `simple_colors`, by the invariant of Invariants.antt.
use native.Mathlib.Omega.{arith}
use mathlib.Core.Path.{◌≡◌}
use Prim.Native.Nat.{suc, ◌+◌, ◌-◌, ◌<◌}
use lib.ListN.{length}
use Rattle.coloring.specs.Simple.{simple_from, simple_colors}
use Rattle.coloring.proofs.switching.DrawLaws.{simple_length, drawing_starts, drawing_next, drawing_ends}
use Rattle.coloring.proofs.simple.simple_colors.Invariants.{all}
use Rattle.coloring.proofs.simple.simple_colors.Goals as goal

pub loop-i-init : goal.loop-i-init
loop-i-init c =
    let n = length c.args.colors.now in
    let first = c.switch_color-pen.result in
    let l : length (all first (n - 1)).colors ≡ n = omega (arith, simple_length first.color (n - 1) first) in
    rw c.bits.ensures (drawing_next _ _ _ (omega arith) (drawing_starts (all first (n - 1)) c.args.colors.now l))

pub loop-i-preserved : goal.loop-i-preserved
unfolding simple_from
loop-i-preserved c =
    let at = c.loop-i in
    let n = length c.args.colors.now in
    let h : at.i < n = omega (arith, at.invariant.long) in
    let e : n - at.i ≡ suc (n - (at.i + 1)) = omega arith in
    let left : n - 1 - at.i ≡ n - (at.i + 1) = omega arith in
    rw (c.bits-in-loop-i.ensures, c.switch_color_banned-pen.ensures, c.banned_before.ensures, left)
    (drawing_next _ _ _ h (rw e at at.invariant))

pub returns : goal.returns
unfolding simple_from simple_colors
returns c =
    let at = c.loop-i in
    let a = c.args in
    let e : length a.colors.now - at.i ≡ 0 = omega (arith, at.invariant.long) in
    rw c.switch_color-pen.ensures at (drawing_ends at.pen (rw e at at.invariant))
