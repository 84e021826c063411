-- `math::sqrt::sqrt_bits` meets its contract: each return is a branch of the definition.
use Rattle.std.proofs.Common.{◌<◌, sym, ◌∙◌, arith}
use Rattle.math.specs.Sqrt as spec
use Rattle.math.proofs.sqrt.SqrtOpen.{sqrt_bits-zero, sqrt_bits_infinity, sqrt_bits_above, sqrt_bits_positive}
use Rattle.math.proofs.sqrt.sqrt_bits.Goals as goal

pub returns-then-bits-eq0 : goal.returns-then-bits-eq0
returns-then-bits-eq0 c = sym (sqrt_bits-zero _ c.if-bits-eq0.true)

pub returns-then-bits-eq-INFINITY : goal.returns-then-bits-eq-INFINITY
returns-then-bits-eq-INFINITY c = sym (sqrt_bits_infinity _ c.if-bits-eq-INFINITY.true ∙ c.if-bits-eq-INFINITY.true)

pub returns-then-bits-gt-INFINITY : goal.returns-then-bits-gt-INFINITY
returns-then-bits-gt-INFINITY c = sym (sqrt_bits_above _ c.if-bits-gt-INFINITY.true c.if-bits-eq0.false)

pub returns : goal.returns
returns c =
    let b = c.args.bits in
    let p : 0 < b = omega arith in
    let h : b < spec.infinity_pattern = omega arith in
    c.root.ensures ∙ sym (sqrt_bits_positive b p h)
