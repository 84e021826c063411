-- `math::sqrt::sqrt_near` meets its contract. A normal number's root is no NaN.
use Rattle.std.proofs.Common.{ℕ, ◌<◌, sym, ap, ◌∙◌, subst, arith}
use lib.Ieee.{binary64, of_bits, to_bits}
use Rattle.math.specs.Nan.{only_nan, nan_read, no_nan_pattern}
use Rattle.math.specs.Sqrt as spec
use Rattle.math.specs.SqrtExamples.{sqrt_examples}
use Rattle.math.proofs.sqrt.SqrtNearest.{sqrt_nearest}
use Rattle.math.proofs.sqrt.SqrtOpen.{sqrt_of_is, sqrt_bits_positive}
use Rattle.math.proofs.sqrt.sqrt_near.Goals as goal

root_finite : (b : ℕ) → 0 < b → b < spec.infinity_pattern → spec.positive_root b < spec.infinity_pattern
root_finite b p h = subst (λ (r : ℕ). r < spec.infinity_pattern) (sqrt_bits_positive b p h) (sqrt_nearest b p h).finite

pub returns-then-is_nan : goal.returns-then-is_nan
returns-then-is_nan c = nan_read ∙ sym (ap spec.sqrt_of (only_nan c.args.x (sym c.is_nan.ensures.value ∙ c.if-is_nan.true)) ∙ sqrt_examples.value_nan)

pub float_from_bits-result : goal.float_from_bits-result
float_from_bits-result c =
    let b = to_bits binary64 c.args.x in
    let p : 0 < b = omega arith in
    let h : b < spec.infinity_pattern = omega arith in
    no_nan_pattern c.root.result (omega (arith, c.root.ensures, root_finite b p h))

pub returns-then-bits-lt-INFINITY : goal.returns-then-bits-lt-INFINITY
returns-then-bits-lt-INFINITY c =
    let x = c.args.x in
    let b = to_bits binary64 x in
    let p : 0 < b = omega arith in
    let h : b < spec.infinity_pattern = omega arith in
    ap (of_bits binary64) (c.root.ensures ∙ sym (sqrt_bits_positive b p h)) ∙ sym (sqrt_of_is x)

pub returns : goal.returns
returns c = c.float.ensures ∙ ap (of_bits binary64) c.sqrt_bits.ensures ∙ sym (sqrt_of_is c.args.x)
