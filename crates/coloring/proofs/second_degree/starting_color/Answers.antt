-- `starting_color` meets its contract, arm by arm.
use mathlib.Core.Path.{◌≡◌, sym, ap, ◌∙◌}
use mathlib.Core.Logic.{◌≢◌}
use mathlib.Core.Bool.{Bool, true, false, cond}
use Prim.Native.Nat.{ℕ, ◌%◌, ◌<◌}
use native.Mathlib.Omega.{arith}
use lib.Dec.{eqb}
use borrow.Author.Tests.{eq-eqb, ne_eqb}
use Rattle.coloring.specs.declared.seed.Draw.{Draw}
use Rattle.coloring.specs.Seed.{seed_extract2}
use Rattle.coloring.specs.SecondDegree.{starting_color}
use Rattle.coloring.proofs.second_degree.starting_color.Goals as goal

-- no arm is left for any other set
below_four : (p : ℕ) → p < 8 → p ≢ 7 → p ≢ 6 → p ≢ 5 → p ≢ 4 → p < 4
below_four p h a b c d = omega arith

none_left : (p : ℕ) → p < 4 → p ≢ 3 → p ≢ 2 → p ≢ 1 → p ≡ 0
none_left p h a b c = omega arith

-- {0, 2} by the draw
two_drawn : (possible i seed : ℕ) (b : Bool) (draw : Draw) → possible ≡ 5 → draw ≡ seed_extract2 seed → eqb (seed % 2) 0 ≡ b
    → record { value = cond b 2 0; seed = draw.seed } ≡ starting_color possible i seed
unfolding starting_color
two_drawn possible i seed b draw five drawn e = rw (five, e, drawn)

pub overflow_add-value : goal.overflow_add-value
overflow_add-value c = omega (arith, ap (λ (d : Draw). d.value) c.seed_extract-draw-in-6.ensures)

pub overflow_add-value-in-7 : goal.overflow_add-value-in-7
overflow_add-value-in-7 c = omega (arith, ap (λ (d : Draw). d.value) c.seed_extract-draw-in-7.ensures)

pub returns-in-1 : goal.returns-in-1
unfolding starting_color
returns-in-1 c = rw c.in-1.is

pub returns-in-2 : goal.returns-in-2
unfolding starting_color
returns-in-2 c = rw c.in-2.is

pub returns-in-3 : goal.returns-in-3
unfolding starting_color
returns-in-3 c = rw c.in-3.is c.seed_extract.ensures

pub returns-in-4 : goal.returns-in-4
unfolding starting_color
returns-in-4 c = rw c.in-4.is

pub returns-then-draw-eq0 : goal.returns-then-draw-eq0
unfolding starting_color
returns-then-draw-eq0 c =
    let zero = sym (ap (λ (d : Draw). d.value) c.seed_extract-draw.ensures) ∙ c.if-draw-eq0.true in
    two_drawn _ _ _ true _ c.in-5.is c.seed_extract-draw.ensures (eq-eqb _ 0 zero)

pub returns-else-draw-eq0 : goal.returns-else-draw-eq0
unfolding starting_color
returns-else-draw-eq0 c =
    let value = ap (λ (d : Draw). d.value) c.seed_extract-draw.ensures in
    two_drawn _ _ _ false _ c.in-5.is c.seed_extract-draw.ensures (ne_eqb _ 0 (λ e. c.if-draw-eq0.false (value ∙ e)))

pub returns-in-6 : goal.returns-in-6
unfolding starting_color
returns-in-6 c = rw (c.in-6.is, c.seed_extract-draw-in-6.ensures)

pub returns-in-7 : goal.returns-in-7
unfolding starting_color
returns-in-7 c = rw (c.in-7.is, c.seed_extract-draw-in-7.ensures)

pub returns-in_default : goal.returns-in_default
unfolding starting_color
returns-in_default c =
    let rest = c.in_default.in_default-own.rest in
    let p = c.args.possible in
    let four = below_four p c.requires.0 rest.1 rest.0.1 rest.0.0.1 rest.0.0.0.1 in
    rw (none_left p four rest.0.0.0.0.1 rest.0.0.0.0.0.1 rest.0.0.0.0.0.0.1)
