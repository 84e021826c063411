-- `math::sqrt::Positive::exponent` meets its contract: each arm is a branch of the definition.
use Rattle.std.proofs.Common.{sym, arith}
use Rattle.math.proofs.sqrt.SqrtOpen.{exponent-low, exponent_high}
use Rattle.math.proofs.sqrt.SqrtScale.{shift_most}
use Rattle.math.proofs.sqrt.Positive.exponent.Goals as goal

pub overflow_sub-result : goal.overflow_sub-result
overflow_sub-result c =
    let self = c.args.self in
    omega (arith, c.shift.ensures, shift_most self.bits self.above_zero c.if-self-lt-LEADING.true)

pub returns-then-self-lt-LEADING : goal.returns-then-self-lt-LEADING
returns-then-self-lt-LEADING c = rw c.shift.ensures (sym (exponent-low c.args.self.bits c.if-self-lt-LEADING.true))

pub returns-else-self-lt-LEADING : goal.returns-else-self-lt-LEADING
returns-else-self-lt-LEADING c = sym (exponent_high c.args.self.bits c.if-self-lt-LEADING.false)
