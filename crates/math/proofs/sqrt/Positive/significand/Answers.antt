-- `math::sqrt::Positive::significand` meets its contract: each arm is a branch of the definition.
use Rattle.std.proofs.Common.{sym, ◌∙◌, lt_of_lt_of_le, mod-eq_of_lt, arith, lit≤}
use Rattle.math.proofs.sqrt.SqrtOpen.{significand-low, significand_high}
use Rattle.math.proofs.sqrt.SqrtScale.{shift_most, moved_high}
use Rattle.math.proofs.sqrt.Positive.significand.Goals as goal

pub overflow_shl-result : goal.overflow_shl-result
overflow_shl-result c =
    let self = c.args.self in
    omega (arith, c.shift.ensures, shift_most self.bits self.above_zero c.if-self-lt-LEADING.true)

pub returns-then-self-lt-LEADING : goal.returns-then-self-lt-LEADING
returns-then-self-lt-LEADING c =
    let self = c.args.self in
    let h = c.if-self-lt-LEADING.true in
    rw c.shift.ensures
    (mod-eq_of_lt (lt_of_lt_of_le (moved_high self.bits self.above_zero h) (lit≤ tt)) ∙ sym (significand-low self.bits h))

pub returns-else-self-lt-LEADING : goal.returns-else-self-lt-LEADING
returns-else-self-lt-LEADING c = sym (significand_high c.args.self.bits c.if-self-lt-LEADING.false)
