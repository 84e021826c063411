-- The answers for `spread`, by the invariant of Invariants.antt.
use native.Mathlib.Omega.{arith}
use mathlib.Core.Path.{◌≡◌, refl, sym, ◌∙◌}
use mathlib.Core.List.{◌∷◌}
use Prim.Native.Nat.{ℕ, ◌<◌}
use lib.ListN.{length, drop, get_or}
use Rattle.std.proofs.Common.{Iter}
use Rattle.std.specs.Borrow.{Bor}
use Rattle.std.specs.Prelude.{Option, Some, None, MatchOption}
use Rattle.std.specs.Option.{unwrap_or, option_copied}
use Rattle.coloring.proofs.Lists.{length-zero}
use Rattle.coloring.proofs.Writing.{over-all, over-next, over_nothing}
use Rattle.coloring.specs.Splines.{spread}
use Rattle.coloring.specs.Sizes.{spread-length}
use Rattle.coloring.proofs.splines.SpreadLaws.{spread_corner, spread-edge, spread_end}
use Rattle.coloring.proofs.splines.spread.Goals as goal
use Rattle.coloring.proofs.splines.spread.Goals.{then-flag, else-flag}

-- the value that is taken from the rest of the values, or that of the last spline
next_value : (taken : Option (Bor ℕ)) (before after : Iter ℕ) (value : ℕ)
    → MatchOption taken ((length before.rest.now ≡ 0) × (after ≡ before)) (λ x. before.rest.now ≡ x.now ∷ after.rest.now)
    → (unwrap_or (option_copied taken) value ≡ get_or before.rest.now 0 value) × (after.rest.now ≡ drop 1 before.rest.now)
next_value None before after value e = rw (e.1, length-zero before.rest.now e.0) (refl, refl)
next_value (Some x) before after value e = rw e (refl, refl)

pub loop-i-init : goal.loop-i-init
loop-i-init c =
    let a = c.args in
    rw c.iter-rest.ensures.rest (sym (over-all (spread _ a.values.now a.flags.now) a.out.now (c.requires.1 ∙ sym (spread-length _ a.values.now a.flags.now))))

pub loop-i-preserved : goal.loop-i-preserved
loop-i-preserved c =
    let at = c.loop-i in
    let flags = c.args.flags.now in
    let h = c.loop-i-test.true in
    let room : at.i < length at.out = omega arith in
    elim c.if-flag.branch [
      | then-flag w ↦
          let next = next_value w.next.result at.rest w.next.new.self at.value w.next.ensures.steps in
          at.invariant
          ∙ rw (spread_corner at.value at.rest.rest.now flags at.i h w.if-flag.true)
          (over-next at.i _ _ at.out room ∙ rw (w.value-is, w.rest-is, w.unwrap_or-value.ensures, w.copied.ensures, next.0, next.1) refl)
      | else-flag w ↦
          at.invariant
          ∙ rw (w.value-is, w.rest-is, spread-edge at.value at.rest.rest.now flags at.i h w.if-flag.false)
          (over-next at.i _ _ at.out room)
    ]

pub returns : goal.returns
returns c =
    let at = c.loop-i in
    let a = c.args in
    sym (at.invariant ∙ rw (spread_end at.value at.rest.rest.now a.flags.now at.i (omega arith)) (over_nothing at.i at.out))
