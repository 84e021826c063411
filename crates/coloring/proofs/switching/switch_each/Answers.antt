-- The answers for `switch_each`, by the invariant of Invariants.antt.
use native.Mathlib.Omega.{arith}
use mathlib.Core.Path.{◌≡◌, refl, ap}
use Prim.Native.Nat.{ℕ, zero, suc, ◌+◌, ◌-◌, ◌<◌}
use lib.ListN.{length}
use Rattle.coloring.specs.declared.switching.Pen.{Pen}
use Rattle.coloring.specs.Switching.{switch_color, switch_each}
use Rattle.coloring.proofs.switching.DrawLaws.{drawing_starts, drawing_next, drawing_ends}
use Rattle.coloring.proofs.switching.switch_each.Goals as goal

each_length : (k : ℕ) (pen : Pen) → length (switch_each k pen).colors ≡ k
unfolding switch_each
each_length zero pen = refl
each_length (suc k) pen = ap suc (each_length k (switch_color pen))

pub loop-color-init : goal.loop-color-init
loop-color-init c =
    let n = length c.args.colors.now in
    let e : n - 0 ≡ n = omega arith in
    rw e (drawing_starts (switch_each n c.args.pen) c.args.colors.now (each_length n c.args.pen))

pub loop-color-preserved : goal.loop-color-preserved
unfolding switch_each
loop-color-preserved c =
    let at = c.loop-color in
    let n = length c.args.colors.now in
    let h : at.color-index < n = omega (arith, at.invariant.long) in
    let e : n - at.color-index ≡ suc (n - (at.color-index + 1)) = omega arith in
    rw (c.bits.ensures, c.switch_color-pen.ensures) (drawing_next _ _ _ h (rw e at at.invariant))

pub returns : goal.returns
unfolding switch_each
returns c =
    let at = c.loop-color in
    let e : length c.args.colors.now - at.color-index ≡ 0 = omega (arith, at.invariant.long) in
    drawing_ends at.pen (rw e at at.invariant)
