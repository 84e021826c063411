-- The answers for `paint_runs`, by the invariant of Invariants.antt.
use native.Mathlib.Omega.{arith}
use Prim.Native.Nat.{ℕ, ◌<◌}
use mathlib.Core.Path.{◌≡◌, sym, ap, ◌∙◌}
use lib.ListN.{length, get_or, length-map}
use native.Mathlib.Nat.{zero-add}
use Rattle.coloring.specs.Lists.{range, length-range}
use Rattle.coloring.proofs.Lists.{get_or-range}
use Rattle.coloring.specs.declared.settings.Division.{Division}
use Rattle.coloring.specs.Trichotomy.{third_by}
use Rattle.coloring.specs.Teardrop.{third_of, runs}
use Rattle.coloring.proofs.Lists.{get_or_mapped}
use Rattle.coloring.proofs.Places.{walked_more, walked_all}
use Rattle.coloring.proofs.teardrop.paint_runs.Goals as goal

module _ (division : Division) (first middle last m : ℕ) where
  size : length (runs division first middle last m) ≡ m
  unfolding runs
  size = length-map (range 0 m) _ ∙ length-range 0 m

  at : (i : ℕ) → i < m → get_or (runs division first middle last m) i 0 ≡ third_of first middle last (third_by division i m)
  unfolding runs
  at i h =
      get_or_mapped (λ i. third_of first middle last (third_by division i m)) (range 0 m) i 0 0 (rw length-range h)
      ∙ ap (λ (j : ℕ). third_of first middle last (third_by division j m)) (get_or-range 0 m i 0 h ∙ zero-add i)

pub loop-i-preserved : goal.loop-i-preserved
loop-i-preserved c =
    let a = c.args in
    let i = c.loop-i.i in
    let m = length a.out.now in
    let value : c.third_of.result ≡ third_of a.first a.middle a.last (third_by a.division i m) =
    c.third_of.ensures ∙ ap (third_of a.first a.middle a.last) c.third_by.ensures in
    walked_more a.corner m _ 0 (omega arith) (omega arith) c.loop-i.invariant c.third_of.result
    (value ∙ sym (at a.division a.first a.middle a.last m i (omega arith)))

pub returns : goal.returns
returns c =
    let a = c.args in
    let m = length a.out.now in
    let all : c.loop-i.i ≡ m = omega arith in
    walked_all a.corner m (runs a.division a.first a.middle a.last m) 0 (size a.division a.first a.middle a.last m) (omega arith)
    (rw all at c.loop-i.invariant)
