-- `math::sqrt::Radicand::rounded_by_digits` meets its contract: the remainder says how the root is rounded.
use Rattle.std.proofs.Common.{arith}
use Rattle.math.proofs.sqrt.SqrtGuess.{stays, rises}
use Rattle.math.proofs.sqrt.Radicand.rounded_by_digits.Goals as goal

pub returns-then-s : goal.returns-then-s
returns-then-s c = rises _ _ _ (omega (arith, c.args.self.high)) c.floor_root-s.ensures.0 c.if-s.true (omega (arith, c.floor_root-s.result.floor))

pub returns-else-s : goal.returns-else-s
returns-else-s c = stays _ _ _ (omega (arith, c.args.self.high)) c.floor_root-s.ensures.0 c.if-s.false
